-- The three edges of the triangle one after the other, each by its nodes as they were read.
use Rattle.std.specs.Prelude.{None, ◌≡◌, ◌++◌}
use Rattle.laws.specs.Kit.{◌∙◌, ℕ, arith, List, []}
use Rattle.definition.specs.Plane.{Edge}
use Rattle.definition.specs.Cells.{Tri, Mesh, key, new_quad, quad_edges}
use Rattle.definition.specs.Region.{across}
use Rattle.cells.specs.Rep.{Rep, TriIn}
use Rattle.cells.specs.Walk.{node_in}
use Rattle.cells.proofs.Slots.{rep_see, tri_held}
use Rattle.regions.specs.Flood.{beyond, tri_live}
use Rattle.regions.proofs.Visits.{Corners, tri_inside, tri_corners, tri_across, seq_failed, seq_mid, seq_then}
use Rattle.regions.proofs.flood.visit_tri.Goals as goal

-- the nodes that were read, and the edges between them
record Read (p : ℕ) (m : Mesh) (sides : List Edge) (i : ℕ) (t : Tri) (x y z : ℕ) : Type 0 where
  are : across m sides (tri_live i t) ≡ beyond m sides (key x y) ++ (beyond m sides (key y z) ++ beyond m sides (key z x))
  corners : Corners p x y z

read : (w : List ℕ) (s p i : ℕ) (m : Mesh) (sides : List Edge) → Rep w s p m → (t : TriIn m i) → {x y z : ℕ} → x ≡ node_in w s i 0 → y ≡ node_in w s i 1 → z ≡ node_in w s i 2
    → Read p m sides i t.t x y z
read w s p i m sides r t {x} {y} {z} a b c =
    let h = tri_held w s p m r i t in
    record { are = tri_across m sides i t.t x y z (a ∙ h.n0) (b ∙ h.n1) (c ∙ h.n2); corners = tri_corners w s p m r i t (a ∙ h.n0) (b ∙ h.n1) (c ∙ h.n2) }

pub node-x-requires : goal.node-x-requires
node-x-requires c =
    let a = c.args in
    let r = c.requires.2.list.rep in
    record { can_see = rep_see a.w.now a.lay.slots a.lay.points c.requires.0 r a.i (tri_inside a.w.now a.lay.slots a.lay.points c.requires.0 r a.i c.requires.3); k_bound = omega arith }

pub node-y-requires : goal.node-y-requires
node-y-requires c =
    let a = c.args in
    let r = c.requires.2.list.rep in
    record { can_see = rep_see a.w.now a.lay.slots a.lay.points c.requires.0 r a.i (tri_inside a.w.now a.lay.slots a.lay.points c.requires.0 r a.i c.requires.3); k_bound = omega arith }

pub node-z-requires : goal.node-z-requires
node-z-requires c =
    let a = c.args in
    let r = c.requires.2.list.rep in
    record { can_see = rep_see a.w.now a.lay.slots a.lay.points c.requires.0 r a.i (tri_inside a.w.now a.lay.slots a.lay.points c.requires.0 r a.i c.requires.3); k_bound = omega arith }

pub visit_side-requires : goal.visit_side-requires
visit_side-requires c =
    let a = c.args in
    let h = c.requires in
    let g = read a.w.now a.lay.slots a.lay.points a.i h.0 (quad_edges (new_quad a.a a.b a.c a.d)) h.2.list.rep h.3 c.node-x.ensures c.node-y.ensures c.node-z.ensures in
    record { state = (h.0, h.1, h.2); edge = g.corners.xy }

pub returns-in_err-k : goal.returns-in_err-k
returns-in_err-k c = λ m done todo st ti.
    let a = c.args in
    let sides = quad_edges (new_quad a.a a.b a.c a.d) in
    let g = read a.w.now a.lay.slots a.lay.points a.i m sides st.list.rep ti c.node-x.ensures c.node-y.ensures c.node-z.ensures in
    let e1 = beyond m sides (key c.node-x.result c.node-y.result) in
    let e2 = beyond m sides (key c.node-y.result c.node-z.result) in
    let e3 = beyond m sides (key c.node-z.result c.node-x.result) in
    rw (c.from_residual.ensures, g.are) (seq_failed a.w.now c.visit_side.new.w a.lay.slots a.lay.points m done todo e1 (c.in_err-k.ensures m done todo st) (e2 ++ e3))

pub visit_side-requires-2 : goal.visit_side-requires-2
visit_side-requires-2 c =
    let a = c.args in
    let h = c.requires in
    let sides = quad_edges (new_quad a.a a.b a.c a.d) in
    let g = read a.w.now a.lay.slots a.lay.points a.i h.0 sides h.2.list.rep h.3 c.node-x.ensures c.node-y.ensures c.node-z.ensures in
    let e1 = beyond h.0 sides (key c.node-x.result c.node-y.result) in
    let d = seq_mid a.w.now c.visit_side.new.w a.lay.slots a.lay.points h.0 [] h.1 e1 c.in_ok-k.k (c.in_ok-k.ensures h.0 [] h.1 h.2) in
    record { state = (h.0, [] ++ d.now, d.state); edge = g.corners.yz }

pub returns-in_err-l : goal.returns-in_err-l
returns-in_err-l c = λ m done todo st ti.
    let a = c.args in
    let sides = quad_edges (new_quad a.a a.b a.c a.d) in
    let g = read a.w.now a.lay.slots a.lay.points a.i m sides st.list.rep ti c.node-x.ensures c.node-y.ensures c.node-z.ensures in
    let e1 = beyond m sides (key c.node-x.result c.node-y.result) in
    let e2 = beyond m sides (key c.node-y.result c.node-z.result) in
    let e3 = beyond m sides (key c.node-z.result c.node-x.result) in
    let d1 = seq_mid a.w.now c.visit_side.new.w a.lay.slots a.lay.points m done todo e1 c.in_ok-k.k (c.in_ok-k.ensures m done todo st) in
    rw (c.from_residual-in_err-l.ensures, g.are)
    (seq_then a.w.now c.visit_side.new.w a.lay.slots a.lay.points m done todo e1 c.in_ok-k.k d1 (e2 ++ e3) c.visit_side-2.new.w None
    (seq_failed c.visit_side.new.w c.visit_side-2.new.w a.lay.slots a.lay.points m done d1.now e2 (c.in_err-l.ensures m done d1.now d1.state) e3))

pub visit_side-requires-3 : goal.visit_side-requires-3
visit_side-requires-3 c =
    let a = c.args in
    let h = c.requires in
    let sides = quad_edges (new_quad a.a a.b a.c a.d) in
    let g = read a.w.now a.lay.slots a.lay.points a.i h.0 sides h.2.list.rep h.3 c.node-x.ensures c.node-y.ensures c.node-z.ensures in
    let e1 = beyond h.0 sides (key c.node-x.result c.node-y.result) in
    let e2 = beyond h.0 sides (key c.node-y.result c.node-z.result) in
    let d1 = seq_mid a.w.now c.visit_side.new.w a.lay.slots a.lay.points h.0 [] h.1 e1 c.in_ok-k.k (c.in_ok-k.ensures h.0 [] h.1 h.2) in
    let d2 = seq_mid c.visit_side.new.w c.visit_side-2.new.w a.lay.slots a.lay.points h.0 [] d1.now e2 c.in_ok-l.l (c.in_ok-l.ensures h.0 [] d1.now d1.state) in
    record { state = (h.0, [] ++ d2.now, d2.state); edge = g.corners.zx }

pub returns : goal.returns
returns c = λ m done todo st ti.
    let a = c.args in
    let sides = quad_edges (new_quad a.a a.b a.c a.d) in
    let g = read a.w.now a.lay.slots a.lay.points a.i m sides st.list.rep ti c.node-x.ensures c.node-y.ensures c.node-z.ensures in
    let e1 = beyond m sides (key c.node-x.result c.node-y.result) in
    let e2 = beyond m sides (key c.node-y.result c.node-z.result) in
    let e3 = beyond m sides (key c.node-z.result c.node-x.result) in
    let d1 = seq_mid a.w.now c.visit_side.new.w a.lay.slots a.lay.points m done todo e1 c.in_ok-k.k (c.in_ok-k.ensures m done todo st) in
    let d2 = seq_mid c.visit_side.new.w c.visit_side-2.new.w a.lay.slots a.lay.points m done d1.now e2 c.in_ok-l.l (c.in_ok-l.ensures m done d1.now d1.state) in
    rw g.are
    (seq_then a.w.now c.visit_side.new.w a.lay.slots a.lay.points m done todo e1 c.in_ok-k.k d1 (e2 ++ e3) c.visit_side-3.new.w c.visit_side-3.result
    (seq_then c.visit_side.new.w c.visit_side-2.new.w a.lay.slots a.lay.points m done d1.now e2 c.in_ok-l.l d2 e3 c.visit_side-3.new.w c.visit_side-3.result
    (c.visit_side-3.ensures m done d2.now d2.state)))
