-- The loop's invariant: so many owners were passed, at most two, and so many triangles among them, at most one.
-- The measure is how many more owners may be.
use native.Mathlib.Omega.{arith}
use Rattle.cells.proofs.Fronts.{counted_start, counted_more, front_many, front_twice, front_end}
use Rattle.cells.proofs.find.front_around.Goals as goal

pub loop-c-init : goal.loop-c-init
loop-c-init c =
    let a = c.args in
    (omega arith, omega arith, λ m r. counted_start a.w.now a.lay.slots a.lay.points a.u a.v c.first_owner-c.result m (c.first_owner-c.ensures m r))

pub returns-then-all-eq2 : goal.returns-then-all-eq2
returns-then-all-eq2 c =
    let a = c.args in
    let x = c.loop-c in
    λ m r. front_many a.w.now a.lay.slots a.lay.points a.u a.v x.c m x.tri x.all c.if-all-eq2.true c.loop-c-test.true (x.invariant.2 m r)

pub tri_count-tri-requires : goal.tri_count-tri-requires
tri_count-tri-requires c =
    let a = c.args in
    let x = c.loop-c in
    record { fits = omega (arith, c.requires.rep.1.room.fits); inside = omega (arith, c.loop-c-test.true) }

pub returns-then-tri-eq2 : goal.returns-then-tri-eq2
returns-then-tri-eq2 c =
    let a = c.args in
    let x = c.loop-c in
    λ m r.
    front_twice a.w.now a.lay.slots a.lay.points a.u a.v x.c m x.all x.tri c.tri_count-tri.result c.if-tri-eq2.true
    c.loop-c-test.true c.tri_count-tri.ensures.0 (x.invariant.2 m r)

pub next_owner-c-requires : goal.next_owner-c-requires
next_owner-c-requires c =
    let a = c.args in
    let x = c.loop-c in
    let k = x.invariant.2 c.requires.rep.0 c.requires.rep.1 in
    record { at = (k.xs, k.at); edge = c.requires.edge; c_bound = c.loop-c-test.true }

pub loop-c-preserved : goal.loop-c-preserved
loop-c-preserved c =
    let a = c.args in
    let x = c.loop-c in (
      omega (arith, x.invariant.0, c.if-all-eq2.false),
      omega (arith, x.invariant.1, c.tri_count-tri.ensures.1, c.if-tri-eq2.false),
      λ m r.
          counted_more a.w.now a.lay.slots a.lay.points a.u a.v x.c m x.all x.tri c.next_owner-c.result c.tri_count-tri.result
          c.loop-c-test.true c.tri_count-tri.ensures.0 (x.invariant.2 m r) c.next_owner-c.ensures,
    )

pub returns : goal.returns
returns c =
    let a = c.args in
    let x = c.loop-c in
    λ m r. front_end a.w.now a.lay.slots a.lay.points a.u a.v x.c m x.all x.tri x.invariant.0 c.loop-c-test.false (x.invariant.2 m r)
