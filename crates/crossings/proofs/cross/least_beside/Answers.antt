use Rattle.crossings.proofs.Tests.{drawn, can_try, ring_read}
use Rattle.std.specs.Prelude.{◌+◌, ◌*◌}
use Rattle.laws.specs.Kit.{arith}
use Rattle.definition.specs.Cells.{Mesh}
use Rattle.cells.specs.Walk.{left}
use Rattle.crossings.specs.Cross.{Known}
use Rattle.crossings.proofs.Crosses.{Best, best_start, best_more, best_less, best_read, best_end}
use Rattle.crossings.proofs.cross.least_beside.Goals as goal

pub side-d-requires : goal.side-d-requires
side-d-requires c =
    let k = c.requires.known.1 in
    let g = c.requires.segment in
    (omega (arith, k.pts.fits, k.pts.few, k.count, g.first), omega (arith, k.pts.fits, k.pts.few, k.count, g.second), omega (arith, k.pts.fits, k.pts.few, k.count, c.requires.a_lt_n))

pub overflow_mul-lay : goal.overflow_mul-lay
overflow_mul-lay c = omega (arith, c.requires.known.1.rep.room.small)

pub overflow_mul-lay-2 : goal.overflow_mul-lay-2
overflow_mul-lay-2 c = omega (arith, c.requires.known.1.rep.room.small)

pub overflow_add-lay : goal.overflow_add-lay
overflow_add-lay c = omega (arith, c.requires.known.1.rep.room.small)

pub overflow_mul-lay-3 : goal.overflow_mul-lay-3
overflow_mul-lay-3 c = omega (arith, c.requires.known.1.rep.room.small)

pub overflow_add-lay-2 : goal.overflow_add-lay-2
overflow_add-lay-2 c =
    let k = c.requires.known.1 in
    omega (arith, k.rep.room.small, k.rep.points, k.count, c.requires.a_lt_n)

pub next-c-requires : goal.next-c-requires
next-c-requires c =
    let a = c.args in
    let k = c.requires.known.1 in
    ring_read a.w.now a.q.now a.lay.slots a.lay.points a.n a.bucket c.requires.known.0 k (4 * a.lay.slots + a.a) (omega (arith, k.rep.points, k.count, c.requires.a_lt_n))

pub loop-c-init : goal.loop-c-init
loop-c-init c = λ m k.
    let a = c.args in
    rw c.next-c.ensures (best_start a.w.now a.lay.slots a.lay.points a.n a.u a.v a.a m k.rep (omega (arith, k.rep.points, k.count, c.requires.a_lt_n)))

pub overflow_mul-lay-in-loop-c : goal.overflow_mul-lay-in-loop-c
overflow_mul-lay-in-loop-c c = omega (arith, c.requires.known.1.rep.room.small)

pub node_after-requires : goal.node_after-requires
node_after-requires c =
    let a = c.args in
    best_read a.w.now a.lay.slots a.lay.points a.n a.u a.v a.a c.requires.known.0 c.loop-c.best c.loop-c.c c.loop-c-test.true (c.loop-c.invariant c.requires.known.0 c.requires.known.1)

pub better_of-one-requires : goal.better_of-one-requires
better_of-one-requires c =
    let a = c.args in record { can_try = can_try a.w.now a.q.now a.lay.slots a.lay.points a.n a.bucket c.requires.known.0 c.requires.known.1 a.u a.v a.a c.requires.segment c.requires.a_lt_n; best_le_n = (c.loop-c.invariant c.requires.known.0 c.requires.known.1).most; d_value = c.side-d.ensures }

pub node_before-requires : goal.node_before-requires
node_before-requires c =
    let a = c.args in
    best_read a.w.now a.lay.slots a.lay.points a.n a.u a.v a.a c.requires.known.0 c.loop-c.best c.loop-c.c c.loop-c-test.true (c.loop-c.invariant c.requires.known.0 c.requires.known.1)

pub better_of-best-requires : goal.better_of-best-requires
better_of-best-requires c =
    let a = c.args in record { can_try = can_try a.w.now a.q.now a.lay.slots a.lay.points a.n a.bucket c.requires.known.0 c.requires.known.1 a.u a.v a.a c.requires.segment c.requires.a_lt_n; best_le_n = omega (arith, (c.loop-c.invariant c.requires.known.0 c.requires.known.1).most, c.better_of-one.ensures.bound); d_value = c.side-d.ensures }

pub overflow_mul-lay-in-loop-c-2 : goal.overflow_mul-lay-in-loop-c-2
overflow_mul-lay-in-loop-c-2 c = omega (arith, c.requires.known.1.rep.room.small)

pub overflow_mul-lay-in-loop-c-3 : goal.overflow_mul-lay-in-loop-c-3
overflow_mul-lay-in-loop-c-3 c = omega (arith, c.requires.known.1.rep.room.small)

pub overflow_add-lay-in-loop-c : goal.overflow_add-lay-in-loop-c
overflow_add-lay-in-loop-c c = omega (arith, c.requires.known.1.rep.room.small)

pub next-c-requires-in-loop-c : goal.next-c-requires-in-loop-c
next-c-requires-in-loop-c c =
    let a = c.args in
    ring_read a.w.now a.q.now a.lay.slots a.lay.points a.n a.bucket c.requires.known.0 c.requires.known.1 c.loop-c.c (omega (arith, c.loop-c-test.true))

pub loop-c-smaller : goal.loop-c-smaller
loop-c-smaller c =
    let a = c.args in
    rw c.next-c-in-loop-c.ensures (best_less a.w.now a.lay.slots a.lay.points a.n a.u a.v a.a c.requires.known.0 c.loop-c.best c.loop-c.c c.loop-c-test.true (c.loop-c.invariant c.requires.known.0 c.requires.known.1))

pub loop-c-preserved : goal.loop-c-preserved
loop-c-preserved c = λ m k.
    let a = c.args in
    let d = drawn a.w.now a.q.now a.lay.slots a.lay.points a.n a.bucket m k in
    rw c.next-c-in-loop-c.ensures
    (best_more a.w.now a.lay.slots a.lay.points a.n a.u a.v a.a m c.loop-c.best c.loop-c.c c.loop-c-test.true (c.loop-c.invariant m k)
    c.node_after.result c.node_before.result c.better_of-one.result c.better_of-best.result
    c.node_after.ensures (c.better_of-one.ensures.is m d) c.node_before.ensures (c.better_of-best.ensures.is m d))

pub returns : goal.returns
returns c = λ m k.
    let a = c.args in
    best_end a.w.now a.lay.slots a.lay.points a.n a.u a.v a.a m c.loop-c.best c.loop-c.c c.loop-c-test.false (c.loop-c.invariant m k)
