-- The points passed are the same: the order is that of what follows.
use Rattle.laws.specs.Kit.{sym, ◌∙◌, arith}
use Rattle.definition.specs.Lists.{below}
use Rattle.definition.specs.Call.{point_at, first_points}
use Rattle.filing.specs.Filing.{order_points}
use Rattle.filing.proofs.Marks.{rows_start, rows_decide, rows_go_on, rows_end}
use Rattle.filing.proofs.orders.order_points.Goals as goal

pub loop-i-init : goal.loop-i-init
loop-i-init c = (omega arith, rows_start order_points (point_at _) (point_at _) _)

pub returns-then-not-same_point : goal.returns-then-not-same_point
unfolding first_points below
returns-then-not-same_point c =
    let d = sym c.same_point.ensures ∙ c.if-not-same_point.true in
    c.order_point.ensures ∙ rows_decide order_points (point_at _) (point_at _) _ c.loop-i.i (omega arith) c.loop-i.invariant.1 d

pub loop-i-preserved : goal.loop-i-preserved
loop-i-preserved c =
    let d = sym c.same_point.ensures ∙ c.if-not-same_point.false in
    (omega arith, rows_go_on order_points (point_at _) (point_at _) _ c.loop-i.i (omega arith) c.loop-i.invariant.1 d)

pub returns : goal.returns
unfolding first_points below
returns c = let g = c in rows_end order_points (point_at _) (point_at _) _ g.loop-i.i (omega arith) g.loop-i.invariant.1
