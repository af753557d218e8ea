-- At the first node, then at the second: the nodes are those that were read.
use Rattle.laws.specs.Kit.{arith}
use Rattle.cells.proofs.Slots.{rep_see}
use Rattle.regions.proofs.Visits.{tri_inside}
use Rattle.components.proofs.Members.{tri_cell, tri_read}
use Rattle.components.proofs.Seeks.{sought_found, sought_nobody}
use Rattle.components.proofs.Looks.{looked_both}
use Rattle.components.proofs.around.look_tri.Goals as goal

pub read_nodes-t-requires : goal.read_nodes-t-requires
read_nodes-t-requires c =
    let a = c.args in
    let q = c.requires in
    rep_see a.w.now a.lay.slots a.lay.points q.1 q.3.rep a.i (tri_inside a.w.now a.lay.slots a.lay.points q.1 q.3.rep a.i q.4)

pub first_new-c-requires : goal.first_new-c-requires
first_new-c-requires c =
    let q = c.requires in
    record { by_index = (q.0, q.1, q.2, q.3); room = q.3.rep.room; x_lt_p = omega (arith, c.wide.ensures, (tri_read q.3.rep q.4 (c.read_nodes-t.ensures q.4.t (tri_cell q.3.rep q.4))).in0) }

pub returns-then-c-lay : goal.returns-then-c-lay
returns-then-c-lay c = λ k m xs h t. sought_found (c.first_new-c.ensures k m xs h) (omega arith)

pub first_new-d-requires : goal.first_new-d-requires
first_new-d-requires c =
    let q = c.requires in
    record { by_index = (q.0, q.1, q.2, q.3); room = q.3.rep.room; x_lt_p = omega (arith, c.wide-2.ensures, (tri_read q.3.rep q.4 (c.read_nodes-t.ensures q.4.t (tri_cell q.3.rep q.4))).in1) }

pub returns-then-d-lay : goal.returns-then-d-lay
returns-then-d-lay c = λ k m xs h t. sought_found (c.first_new-d.ensures k m xs h) (omega arith)

pub returns : goal.returns
returns c = λ k m xs h t.
    looked_both (tri_read h.rep t (c.read_nodes-t.ensures t.t (tri_cell h.rep t))) c.wide.ensures c.wide-2.ensures (sought_nobody (c.first_new-c.ensures k m xs h) (omega arith)) (sought_nobody (c.first_new-d.ensures k m xs h) (omega arith))
