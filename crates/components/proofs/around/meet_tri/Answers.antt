use Rattle.std.specs.Prelude.{◌++◌}
use Rattle.laws.specs.Kit.{arith}
use Rattle.cells.proofs.Slots.{rep_see}
use Rattle.regions.proofs.Visits.{tri_inside}
use Rattle.components.proofs.Members.{tri_cell, tri_read}
use Rattle.components.proofs.Meets.{met_both}
use Rattle.components.proofs.around.meet_tri.Goals as goal

pub read_nodes-t-requires : goal.read_nodes-t-requires
read_nodes-t-requires c =
    let a = c.args in
    let q = c.requires in
    rep_see a.w.now a.lay.slots a.lay.points q.0 q.2.rep a.i (tri_inside a.w.now a.lay.slots a.lay.points q.0 q.2.rep a.i q.3)

pub meet_ring-k-requires-clause-x_lt_p : goal.meet_ring-k-requires-clause-x_lt_p
meet_ring-k-requires-clause-x_lt_p c =
    let q = c.requires in
    omega (arith, c.wide.ensures, (tri_read q.2.rep q.3 (c.read_nodes-t.ensures q.3.t (tri_cell q.2.rep q.3))).in0)

pub meet_ring-requires-clause-marked : goal.meet_ring-requires-clause-marked
meet_ring-requires-clause-marked c =
    let q = c.requires in
    let g = c.meet_ring-k.ensures q.0 q.1 q.2 in
    (q.0, q.1 ++ g.new, g.state)

pub meet_ring-requires-clause-x_lt_p : goal.meet_ring-requires-clause-x_lt_p
meet_ring-requires-clause-x_lt_p c =
    let q = c.requires in
    omega (arith, c.wide-2.ensures, (tri_read q.2.rep q.3 (c.read_nodes-t.ensures q.3.t (tri_cell q.2.rep q.3))).in1)

pub returns : goal.returns
returns c = λ m xs h t.
    let a = c.args in
    let n = c.read_nodes-t.result in
    let k = c.meet_ring-k in
    let g = k.ensures m xs h in
    met_both a.w.now k.new.w c.meet_ring.new.w a.lay.slots a.lay.points k.result c.meet_ring.result m xs t.t n.x n.y n.z c.wide.result c.wide-2.result
    (tri_read h.rep t (c.read_nodes-t.ensures t.t (tri_cell h.rep t))) c.wide.ensures c.wide-2.ensures g (c.meet_ring.ensures m (xs ++ g.new) g.state)
