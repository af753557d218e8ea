-- An edge is open by its bit of the mark, or where that tells a wall by the test of it.
use mathlib.Core.Path.{◌≡◌, ap, ◌∙◌, sym}
use mathlib.Core.Logic.{◌≢◌}
use mathlib.Core.Bool.{Bool, true}
use mathlib.Core.List.{List}
use Prim.Native.Nat.{ℕ, ◌/◌, ◌%◌, ◌≤◌, ◌<◌}
use lib.Dec.{eqb}
use lib.ListN.{length}
use borrow.Author.Tests.{eq-eqb, ne_eqb}
use Rattle.definition.specs.Plane.{Edge}
use Rattle.definition.specs.Cells.{Mesh, key}
use Rattle.definition.specs.Candidates.{shared_by_tris, passes_by}
use Rattle.cells.specs.Rep.{Rep, TriIn}
use Rattle.cells.specs.Walk.{IsEdge, node_in}
use Rattle.live_regions.proofs.Steps.{corners_of, edge_is}
use Rattle.side_candidates.specs.Hand.{Ends, open_edge}
use Rattle.side_candidates.proofs.Fences.{shared_0, shared_1, shared_2, open_shared, open_wall, cell_clear, cell_0, cell_1, cell_2, ends_are}
use Rattle.side_candidates.proofs.inside.open_cell.Goals as goal
use Rattle.side_candidates.proofs.inside.open_cell.Goals.{then-f-ne0+else-not-clears, else-f-ne0, then-f-ne0-2+else-not-clears-2, else-f-ne0-2}

-- ---- one edge
-- the edge x-y by its nodes u and v as they were read
record Side (m : Mesh) (p u v x y : ℕ) : Type 0 where
  pub ends : Ends m u v
  pub edge : IsEdge p u v
  pub same : key u v ≡ key x y

side_of : (m : Mesh) (p u v x y : ℕ) → u ≡ x → v ≡ y → x < length m.points → y < length m.points → length m.points ≤ p → x ≢ y → Side m p u v x y
side_of m p u v x y e f h k l d = record { ends = ends_are m u v x y e f h k; edge = edge_is p (length m.points) x y u v e f h l d; same = ap (λ (n : ℕ). key n v) e ∙ ap (key x) f }

module _ (m : Mesh) (a b : ℕ) (e : Edge) (k : ℕ) (h : eqb k 0 ≡ shared_by_tris m e) where
  bare : k ≡ 0 → true ≡ open_edge m a b e
  bare z = open_shared m a b e (sym (eq-eqb k 0 z) ∙ h)

  wall : (d : Edge) (r : Bool) → d ≡ e → k ≢ 0 → r ≡ passes_by m a b d → r ≡ open_edge m a b e
  wall d r f z i = open_wall m a b e r (sym (ne_eqb k 0 z) ∙ h) (i ∙ ap (passes_by m a b) f)

-- ---- the three, by the nodes as they were read
module _ (w : List ℕ) (s p i : ℕ) (m : Mesh) (r : Rep w s p m) (t : TriIn m i) where
  side_0 : (u v : ℕ) → u ≡ node_in w s i 0 → v ≡ node_in w s i 1 → Side m p u v t.t.n0 t.t.n1
  side_0 u v e f =
      let d = corners_of w s p i m r t in
      side_of m p u v t.t.n0 t.t.n1 (e ∙ d.read.n0) (f ∙ d.read.n1) d.k0 d.k1 r.points d.d01

  side_1 : (u v : ℕ) → u ≡ node_in w s i 1 → v ≡ node_in w s i 2 → Side m p u v t.t.n1 t.t.n2
  side_1 u v e f =
      let d = corners_of w s p i m r t in
      side_of m p u v t.t.n1 t.t.n2 (e ∙ d.read.n1) (f ∙ d.read.n2) d.k1 d.k2 r.points d.d12

  side_2 : (u v : ℕ) → u ≡ node_in w s i 2 → v ≡ node_in w s i 0 → Side m p u v t.t.n2 t.t.n0
  side_2 u v e f =
      let d = corners_of w s p i m r t in
      side_of m p u v t.t.n2 t.t.n0 (e ∙ d.read.n2) (f ∙ d.read.n0) d.k2 d.k0 r.points d.d20

-- ---- the function
pub returns-then-f-eq8 : goal.returns-then-f-eq8
returns-then-f-eq8 c =
    let a = c.args in
    λ m r h e k g. cell_clear m a.i a.f k.t g a.a a.b c.if-f-eq8.true

pub clears-requires : goal.clears-requires
clears-requires c =
    let a = c.args in
    let y = c.requires.rep in
    let s = side_0 a.w.now a.lay.slots a.lay.points a.i y.0 y.1 y.4 c.node-x.result c.node-y.result c.node-x.ensures c.node-y.ensures in
    record { pts = (y.0, y.2, y.3, s.ends); edge = s.edge }

pub returns-then-not-clears : goal.returns-then-not-clears
returns-then-not-clears c =
    let a = c.args in
    λ m r h e k g.
    let s = side_0 a.w.now a.lay.slots a.lay.points a.i m r k c.node-x.result c.node-y.result c.node-x.ensures c.node-y.ensures in
    cell_0 m a.a a.b k.t
    (sym c.if-not-clears.true ∙ wall m a.a a.b (key k.t.n0 k.t.n1) (a.f % 2) (shared_0 m a.i a.f k.t g) (key c.node-x.result c.node-y.result) c.clears.result s.same c.if-f-ne0.true (c.clears.ensures m h e s.ends))

pub clears-requires-then-f-ne0-2 : goal.clears-requires-then-f-ne0-2
clears-requires-then-f-ne0-2 c =
    let a = c.args in
    let y = c.requires.rep in
    let s = side_1 a.w.now a.lay.slots a.lay.points a.i y.0 y.1 y.4 c.node-y.result c.node-z.result c.node-y.ensures c.node-z.ensures in
    record { pts = (y.0, y.2, y.3, s.ends); edge = s.edge }

pub returns-then-not-clears-2 : goal.returns-then-not-clears-2
returns-then-not-clears-2 c =
    let a = c.args in
    λ m r h e k g.
    let s0 = side_0 a.w.now a.lay.slots a.lay.points a.i m r k c.node-x.result c.node-y.result c.node-x.ensures c.node-y.ensures in
    let s1 = side_1 a.w.now a.lay.slots a.lay.points a.i m r k c.node-y.result c.node-z.result c.node-y.ensures c.node-z.ensures in
    let f0 = shared_0 m a.i a.f k.t g in
    let o0 : true ≡ open_edge m a.a a.b (key k.t.n0 k.t.n1) = elim c.if-f-ne0.branch [
      | then-f-ne0+else-not-clears z ↦ wall m a.a a.b (key k.t.n0 k.t.n1) (a.f % 2) f0 (key c.node-x.result c.node-y.result) true s0.same z.if-f-ne0.true (sym z.if-not-clears.false ∙ z.clears.ensures m h e s0.ends)
      | else-f-ne0 z ↦ bare m a.a a.b (key k.t.n0 k.t.n1) (a.f % 2) f0 z.if-f-ne0.false
    ] in
    cell_1 m a.a a.b k.t o0
    (sym c.if-not-clears-2.true ∙ wall m a.a a.b (key k.t.n1 k.t.n2) (a.f / 2 % 2) (shared_1 m a.i a.f k.t g) (key c.node-y.result c.node-z.result) c.clears-then-f-ne0-2.result s1.same c.if-f-ne0-2.true (c.clears-then-f-ne0-2.ensures m h e s1.ends))

pub clears-requires-then-f-ne0-3 : goal.clears-requires-then-f-ne0-3
clears-requires-then-f-ne0-3 c =
    let a = c.args in
    let y = c.requires.rep in
    let s = side_2 a.w.now a.lay.slots a.lay.points a.i y.0 y.1 y.4 c.node-z.result c.node-x.result c.node-z.ensures c.node-x.ensures in
    record { pts = (y.0, y.2, y.3, s.ends); edge = s.edge }

pub returns-then-f-ne0-3 : goal.returns-then-f-ne0-3
returns-then-f-ne0-3 c =
    let a = c.args in
    λ m r h e k g.
    let s0 = side_0 a.w.now a.lay.slots a.lay.points a.i m r k c.node-x.result c.node-y.result c.node-x.ensures c.node-y.ensures in
    let s1 = side_1 a.w.now a.lay.slots a.lay.points a.i m r k c.node-y.result c.node-z.result c.node-y.ensures c.node-z.ensures in
    let s2 = side_2 a.w.now a.lay.slots a.lay.points a.i m r k c.node-z.result c.node-x.result c.node-z.ensures c.node-x.ensures in
    let f0 = shared_0 m a.i a.f k.t g in
    let f1 = shared_1 m a.i a.f k.t g in
    let o0 : true ≡ open_edge m a.a a.b (key k.t.n0 k.t.n1) = elim c.if-f-ne0.branch [
      | then-f-ne0+else-not-clears z ↦ wall m a.a a.b (key k.t.n0 k.t.n1) (a.f % 2) f0 (key c.node-x.result c.node-y.result) true s0.same z.if-f-ne0.true (sym z.if-not-clears.false ∙ z.clears.ensures m h e s0.ends)
      | else-f-ne0 z ↦ bare m a.a a.b (key k.t.n0 k.t.n1) (a.f % 2) f0 z.if-f-ne0.false
    ] in
    let o1 : true ≡ open_edge m a.a a.b (key k.t.n1 k.t.n2) = elim c.if-f-ne0-2.branch [
      | then-f-ne0-2+else-not-clears-2 z ↦ wall m a.a a.b (key k.t.n1 k.t.n2) (a.f / 2 % 2) f1 (key c.node-y.result c.node-z.result) true s1.same z.if-f-ne0-2.true (sym z.if-not-clears-2.false ∙ z.clears-then-f-ne0-2.ensures m h e s1.ends)
      | else-f-ne0-2 z ↦ bare m a.a a.b (key k.t.n1 k.t.n2) (a.f / 2 % 2) f1 z.if-f-ne0-2.false
    ] in
    cell_2 m a.a a.b k.t c.clears-then-f-ne0-3.result o0 o1
    (wall m a.a a.b (key k.t.n2 k.t.n0) (a.f / 4 % 2) (shared_2 m a.i a.f k.t g) (key c.node-z.result c.node-x.result) c.clears-then-f-ne0-3.result s2.same c.if-f-ne0-3.true (c.clears-then-f-ne0-3.ensures m h e s2.ends))

pub returns : goal.returns
returns c =
    let a = c.args in
    λ m r h e k g.
    let s0 = side_0 a.w.now a.lay.slots a.lay.points a.i m r k c.node-x.result c.node-y.result c.node-x.ensures c.node-y.ensures in
    let s1 = side_1 a.w.now a.lay.slots a.lay.points a.i m r k c.node-y.result c.node-z.result c.node-y.ensures c.node-z.ensures in
    let f0 = shared_0 m a.i a.f k.t g in
    let f1 = shared_1 m a.i a.f k.t g in
    let o0 : true ≡ open_edge m a.a a.b (key k.t.n0 k.t.n1) = elim c.if-f-ne0.branch [
      | then-f-ne0+else-not-clears z ↦ wall m a.a a.b (key k.t.n0 k.t.n1) (a.f % 2) f0 (key c.node-x.result c.node-y.result) true s0.same z.if-f-ne0.true (sym z.if-not-clears.false ∙ z.clears.ensures m h e s0.ends)
      | else-f-ne0 z ↦ bare m a.a a.b (key k.t.n0 k.t.n1) (a.f % 2) f0 z.if-f-ne0.false
    ] in
    let o1 : true ≡ open_edge m a.a a.b (key k.t.n1 k.t.n2) = elim c.if-f-ne0-2.branch [
      | then-f-ne0-2+else-not-clears-2 z ↦ wall m a.a a.b (key k.t.n1 k.t.n2) (a.f / 2 % 2) f1 (key c.node-y.result c.node-z.result) true s1.same z.if-f-ne0-2.true (sym z.if-not-clears-2.false ∙ z.clears-then-f-ne0-2.ensures m h e s1.ends)
      | else-f-ne0-2 z ↦ bare m a.a a.b (key k.t.n1 k.t.n2) (a.f / 2 % 2) f1 z.if-f-ne0-2.false
    ] in
    cell_2 m a.a a.b k.t true o0 o1 (bare m a.a a.b (key k.t.n2 k.t.n0) (a.f / 4 % 2) (shared_2 m a.i a.f k.t g) c.if-f-ne0-3.false)
