-- The box bounds the nodes of the places that were passed; what is still to come has every other neighbour.
use Rattle.std.specs.Prelude.{◌+◌, ◌*◌}
use Rattle.laws.specs.Kit.{arith, Float}
use Rattle.definition.specs.Cells.{Mesh}
use Rattle.cells.specs.Walk.{left}
use Rattle.crossings.specs.Cross.{Known}
use Rattle.crossings.proofs.Tests.{ring_read}
use Rattle.crossings.proofs.Boxing.{Boxed, a_within, after_within, before_within, boxed_start, boxed_more, boxed_less, boxed_read, boxed_end}
use Rattle.crossings.proofs.boxes.box_of.Goals as goal

pub around-b-requires : goal.around-b-requires
around-b-requires c =
    let a = c.args in
    a_within a.w.now a.q.now a.lay.slots a.lay.points a.n c.requires.known.0 c.requires.known.1 c.requires.known.2 a.a c.requires.a_lt_n

pub overflow_mul-lay : goal.overflow_mul-lay
overflow_mul-lay c = omega (arith, c.requires.known.2.rep.room.small)

pub overflow_mul-lay-2 : goal.overflow_mul-lay-2
overflow_mul-lay-2 c = omega (arith, c.requires.known.2.rep.room.small)

pub overflow_add-lay : goal.overflow_add-lay
overflow_add-lay c = omega (arith, c.requires.known.2.rep.room.small)

pub overflow_mul-lay-3 : goal.overflow_mul-lay-3
overflow_mul-lay-3 c = omega (arith, c.requires.known.2.rep.room.small)

pub overflow_add-lay-2 : goal.overflow_add-lay-2
overflow_add-lay-2 c =
    let k = c.requires.known.2 in
    omega (arith, k.rep.room.small, k.rep.points, k.count, c.requires.a_lt_n)

pub next-c-requires : goal.next-c-requires
next-c-requires c =
    let a = c.args in
    let k = c.requires.known.2 in
    ring_read a.w.now a.q.now a.lay.slots a.lay.points a.n c.requires.known.0 c.requires.known.1 k (4 * a.lay.slots + a.a) (omega (arith, k.rep.points, k.count, c.requires.a_lt_n))

pub loop-c-init : goal.loop-c-init
loop-c-init c = λ k m h.
    let a = c.args in
    rw c.next-c.ensures (boxed_start a.w.now a.q.now a.lay.slots a.lay.points a.n k m h a.a c.requires.a_lt_n c.around-b.result c.around-b.ensures)

pub overflow_mul-lay-in-loop-c : goal.overflow_mul-lay-in-loop-c
overflow_mul-lay-in-loop-c c = omega (arith, c.requires.known.2.rep.room.small)

pub node_after-requires : goal.node_after-requires
node_after-requires c =
    let a = c.args in
    let y = c.requires.known in
    boxed_read a.w.now a.q.now a.lay.slots a.lay.points a.n y.0 y.1 y.2 a.a c.requires.a_lt_n c.loop-c.c c.loop-c-test.true c.loop-c.b (c.loop-c.invariant y.0 y.1 y.2)

pub widen-one-requires : goal.widen-one-requires
widen-one-requires c =
    let a = c.args in
    let y = c.requires.known in
    after_within a.w.now a.q.now a.lay.slots a.lay.points a.n y.0 y.1 y.2 a.a c.requires.a_lt_n c.loop-c.c c.loop-c-test.true c.loop-c.b (c.loop-c.invariant y.0 y.1 y.2)
    c.node_after.result c.node_after.ensures

pub node_before-requires : goal.node_before-requires
node_before-requires c =
    let a = c.args in
    let y = c.requires.known in
    boxed_read a.w.now a.q.now a.lay.slots a.lay.points a.n y.0 y.1 y.2 a.a c.requires.a_lt_n c.loop-c.c c.loop-c-test.true c.loop-c.b (c.loop-c.invariant y.0 y.1 y.2)

pub widen-b-requires : goal.widen-b-requires
widen-b-requires c =
    let a = c.args in
    let y = c.requires.known in
    before_within a.w.now a.q.now a.lay.slots a.lay.points a.n y.0 y.1 y.2 a.a c.requires.a_lt_n c.loop-c.c c.loop-c-test.true c.loop-c.b (c.loop-c.invariant y.0 y.1 y.2)
    c.node_before.result c.node_before.ensures

pub overflow_mul-lay-in-loop-c-2 : goal.overflow_mul-lay-in-loop-c-2
overflow_mul-lay-in-loop-c-2 c = omega (arith, c.requires.known.2.rep.room.small)

pub overflow_mul-lay-in-loop-c-3 : goal.overflow_mul-lay-in-loop-c-3
overflow_mul-lay-in-loop-c-3 c = omega (arith, c.requires.known.2.rep.room.small)

pub overflow_add-lay-in-loop-c : goal.overflow_add-lay-in-loop-c
overflow_add-lay-in-loop-c c = omega (arith, c.requires.known.2.rep.room.small)

pub next-c-requires-in-loop-c : goal.next-c-requires-in-loop-c
next-c-requires-in-loop-c c =
    let a = c.args in
    let y = c.requires.known in
    ring_read a.w.now a.q.now a.lay.slots a.lay.points a.n y.0 y.1 y.2 c.loop-c.c (omega (arith, c.loop-c-test.true))

pub loop-c-smaller : goal.loop-c-smaller
loop-c-smaller c =
    let a = c.args in
    let y = c.requires.known in
    rw c.next-c-in-loop-c.ensures
    (boxed_less a.w.now a.q.now a.lay.slots a.lay.points a.n y.0 y.1 y.2 a.a c.requires.a_lt_n c.loop-c.c c.loop-c-test.true c.loop-c.b (c.loop-c.invariant y.0 y.1 y.2))

pub loop-c-preserved : goal.loop-c-preserved
loop-c-preserved c = λ k m h.
    let a = c.args in
    rw c.next-c-in-loop-c.ensures
    (boxed_more a.w.now a.q.now a.lay.slots a.lay.points a.n k m h a.a c.requires.a_lt_n c.loop-c.c c.loop-c-test.true c.loop-c.b (c.loop-c.invariant k m h)
    c.node_after.result c.node_before.result c.widen-one.result c.widen-b.result
    c.node_after.ensures c.widen-one.ensures c.node_before.ensures c.widen-b.ensures)

pub returns : goal.returns
returns c = λ k m h.
    let a = c.args in
    boxed_end a.w.now a.q.now a.lay.slots a.lay.points a.n k m h a.a c.requires.a_lt_n c.loop-c.c c.loop-c.b c.loop-c-test.false (c.loop-c.invariant k m h)
