use mathlib.Core.Path.{◌≡◌, ap, sym, ◌∙◌}
use mathlib.Core.Bool.{not}
use Prim.Native.Nat.{ℕ, ◌<◌}
use native.Mathlib.Omega.{arith}
use lib.ListN.{length}
use Rattle.definition.specs.Call.{point_at}
use Rattle.definition.specs.Cells.{node_at}
use Rattle.plane.specs.Points.{node_of}
use Rattle.cells.proofs.Points.{node_within}
use Rattle.live_regions.proofs.Steps.{corners_of}
use Rattle.side_candidates.proofs.Fences.{shared_0, shared_1, shared_2}
use Rattle.side_candidates.proofs.Boxing.{both_also, both_at}
use Rattle.side_candidates.proofs.blocks.with_cell.Goals as goal

pub with_side-requires : goal.with_side-requires
with_side-requires c =
    let a = c.args in
    let r = c.requires.rep in
    let d = corners_of a.w.now a.lay.slots a.lay.points a.i r.0 r.1 r.3 in
    let y = node_within a.q.now a.lay.points r.0 r.2 in
    (y c.node-x.result (omega (arith, c.node-x.ensures ∙ d.read.n0, d.k0)), y c.node-y.result (omega (arith, c.node-y.ensures ∙ d.read.n1, d.k1)))

pub with_side-requires-2 : goal.with_side-requires-2
with_side-requires-2 c =
    let a = c.args in
    let r = c.requires.rep in
    let d = corners_of a.w.now a.lay.slots a.lay.points a.i r.0 r.1 r.3 in
    let y = node_within a.q.now a.lay.points r.0 r.2 in
    (y c.node-y.result (omega (arith, c.node-y.ensures ∙ d.read.n1, d.k1)), y c.node-z.result (omega (arith, c.node-z.ensures ∙ d.read.n2, d.k2)))

pub with_side-requires-3 : goal.with_side-requires-3
with_side-requires-3 c =
    let a = c.args in
    let r = c.requires.rep in
    let d = corners_of a.w.now a.lay.slots a.lay.points a.i r.0 r.1 r.3 in
    let y = node_within a.q.now a.lay.points r.0 r.2 in
    (y c.node-z.result (omega (arith, c.node-z.ensures ∙ d.read.n2, d.k2)), y c.node-x.result (omega (arith, c.node-x.ensures ∙ d.read.n0, d.k0)))

pub returns : goal.returns
returns c =
    let a = c.args in
    let one = c.with_side in
    let two = c.with_side-2 in
    let r = c.with_side-3 in
    λ m rep pts t g.
    let d = corners_of a.w.now a.lay.slots a.lay.points a.i m rep t in
    let f = node_of m (length m.points) a.q.now pts.are in
    let at : (u v : ℕ) → u ≡ v → v < length m.points → point_at a.q.now u ≡ node_at m v = λ u v e k. ap (point_at a.q.now) e ∙ sym (f v k) in
    let x = at c.node-x.result t.t.n0 (c.node-x.ensures ∙ d.read.n0) d.k0 in
    let y = at c.node-y.result t.t.n1 (c.node-y.ensures ∙ d.read.n1) d.k1 in
    let w = at c.node-z.result t.t.n2 (c.node-z.ensures ∙ d.read.n2) d.k2 in
    record {
      walls = record {
        first = λ e. both_at r.result _ _ _ _ x y (both_also one.result r.result (λ u h. r.ensures.keeps u (two.ensures.keeps u h)) _ _ (one.ensures.both (ap not (shared_0 m a.i a.f t.t g ∙ e))));
        second = λ e. both_at r.result _ _ _ _ y w (both_also two.result r.result r.ensures.keeps _ _ (two.ensures.both (ap not (shared_1 m a.i a.f t.t g ∙ e))));
        third = λ e. both_at r.result _ _ _ _ w x (r.ensures.both (ap not (shared_2 m a.i a.f t.t g ∙ e)));
      };
      keeps = λ u h. r.ensures.keeps u (two.ensures.keeps u (one.ensures.keeps u h));
    }
