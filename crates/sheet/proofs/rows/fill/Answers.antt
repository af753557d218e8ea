-- The sheet of the quads passed.
use Rattle.std.specs.Prelude.{◌+◌}
use Rattle.laws.specs.Kit.{ap, arith, get_or, set}
use Rattle.definition.specs.Sheet.{listed_points}
use Rattle.sheet.proofs.Filling.{filling_none, filling_few, filling_size, filling_more, filling_end}
use Rattle.sheet.proofs.rows.fill.Goals as goal

pub loop-i-init : goal.loop-i-init
loop-i-init c = filling_none _

pub metrics_at-m-requires : goal.metrics_at-m-requires
metrics_at-m-requires c =
    let r = c.requires in
    (r.points, omega arith, r.corners c.loop-i.i c.loop-i-test.true)

pub put_line-requires : goal.put_line-requires
put_line-requires c =
    let r = c.requires in
    let z = filling_size _ _ _ _ _ _ c.loop-i.invariant r.out in
    omega arith

pub overflow_add-counts : goal.overflow_add-counts
overflow_add-counts c =
    let r = c.requires in
    omega (arith, filling_few _ _ _ _ _ _ c.loop-i.invariant c.place-at.result (omega arith), r.few)

pub loop-i-preserved : goal.loop-i-preserved
unfolding listed_points
loop-i-preserved c =
    let r = c.requires in
    filling_more _ _ _ _ _ _ c.loop-i.invariant r.out c.loop-i-test.true _ c.metrics_at-m.ensures _ _ _ _
    (ap (λ k. set c.loop-i.counts k (get_or c.loop-i.counts k 0 + 1)) c.place-at.ensures.0)
    c.worst_jacobian-jacobian.ensures c.worst_cosine-cosine.ensures c.put_line.ensures

pub shape_of-out : goal.shape_of-out
shape_of-out c =
    let r = c.requires in
    filling_size _ _ _ _ _ _ c.loop-i.invariant r.out

pub returns : goal.returns
returns c = filling_end _ _ _ _ _ _ c.loop-i.invariant c.loop-i-test.false
