use Rattle.std.specs.Prelude.{◌+◌}
use Rattle.laws.specs.Kit.{refl, ◌∙◌, arith}
use Rattle.components.proofs.Grows.{few}
use Rattle.components.proofs.Meets.{going_start, going_end, going_can, going_more, going_listed, going_ring, going_on}
use Rattle.components.proofs.around.meet_ring.Goals as goal

pub loop-c-init : goal.loop-c-init
loop-c-init c =
    let h = c.requires.marked in
    (refl, omega (arith, few h.2, h.2.rep.used), omega (arith, c.requires.room.small), λ m xs h. going_start (c.first_new-c.ensures c.args.n m xs h))

pub append-requires-clause-can_list : goal.append-requires-clause-can_list
append-requires-clause-can_list c =
    let h = c.requires.marked in
    (going_can (c.loop-c.invariant.3 h.0 h.1 h.2) c.loop-c-test.true).0

pub overflow_add-k : goal.overflow_add-k
overflow_add-k c = omega (arith, c.loop-c.invariant.1, c.loop-c.invariant.2)

pub next_new-c-requires-clause-by_index : goal.next_new-c-requires-clause-by_index
next_new-c-requires-clause-by_index c =
    let h = c.requires.marked in
    let g = c.loop-c.invariant.3 h.0 h.1 h.2 in
    let i = c.loop-c-test.true in
    (c.args.x, c.loop-c.k + 1, h.0, going_listed g i, g.sought.passed.ahead, going_ring g i c.append.new.w c.append.ensures)

pub loop-c-smaller : goal.loop-c-smaller
loop-c-smaller c =
    let h = c.requires.marked in
    omega (arith, going_more (c.loop-c.invariant.3 h.0 h.1 h.2) c.loop-c-test.true)

pub loop-c-preserved : goal.loop-c-preserved
loop-c-preserved c =
    let h = c.requires.marked in
    let i = c.loop-c-test.true in
    let v = c.loop-c.invariant in (
      c.append.auto.w ∙ v.0,
      omega (arith, going_more (v.3 h.0 h.1 h.2) i),
      v.2,
      λ m xs q.
          let g = v.3 m xs q in
          going_on g i c.append.new.w c.append.ensures c.next_new-c.result
          (c.next_new-c.ensures c.args.x (c.loop-c.k + 1) m (going_listed g i) g.sought.passed.ahead (going_ring g i c.append.new.w c.append.ensures)),
    )

pub returns : goal.returns
returns c = λ m xs h. going_end (c.loop-c.invariant.3 m xs h) c.loop-c-test.false
