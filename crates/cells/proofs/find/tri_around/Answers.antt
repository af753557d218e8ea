-- The loop's invariant: the owners from the corner on have the same triangles as all.
-- The measure is how many links are left.
use Rattle.cells.proofs.Fronts.{no_tri_start, no_tri_hit, no_tri_more, no_tri_end}
use Rattle.cells.proofs.find.tri_around.Goals as goal

pub loop-c-init : goal.loop-c-init
loop-c-init c =
    let a = c.args in
    λ m r. no_tri_start a.w.now a.lay.slots a.lay.points a.u a.v c.first_owner-c.result m (c.first_owner-c.ensures m r)

pub returns-then-w-c-eq3 : goal.returns-then-w-c-eq3
returns-then-w-c-eq3 c =
    let a = c.args in
    let x = c.loop-c in
    λ m r. no_tri_hit a.w.now a.lay.slots a.lay.points a.u a.v x.c m c.loop-c-test.true c.if-w-c-eq3.true (x.invariant m r)

pub next_owner-c-requires : goal.next_owner-c-requires
next_owner-c-requires c =
    let a = c.args in
    let x = c.loop-c in
    let k = x.invariant c.requires.rep.0 c.requires.rep.1 in
    record { at = (k.xs, k.at); edge = c.requires.edge; c_bound = c.loop-c-test.true }

pub loop-c-smaller : goal.loop-c-smaller
loop-c-smaller c =
    c.next_owner-c.ensures.fewer

pub loop-c-preserved : goal.loop-c-preserved
loop-c-preserved c =
    let a = c.args in
    let x = c.loop-c in
    λ m r. no_tri_more a.w.now a.lay.slots a.lay.points a.u a.v x.c m c.next_owner-c.result c.loop-c-test.true c.if-w-c-eq3.false (x.invariant m r) c.next_owner-c.ensures

pub returns : goal.returns
returns c =
    let a = c.args in
    let x = c.loop-c in
    λ m r. no_tri_end a.w.now a.lay.slots a.lay.points a.u a.v x.c m c.loop-c-test.false (x.invariant m r)
