use Rattle.laws.specs.Kit.{rules, not-false}
use Rattle.definition.specs.Floats.{0·0, f64}
use Rattle.crossings.proofs.Limits.{after_nan, after_is}
use Rattle.crossings.proofs.buckets.above.Goals as goal

pub returns-then-not-in_order : goal.returns-then-not-in_order
unfolding 0·0 f64
returns-then-not-in_order c = after_nan _ _ _

pub returns-then-not-in_order-2 : goal.returns-then-not-in_order-2
unfolding 0·0 f64
returns-then-not-in_order-2 c = after_nan _ _ _

pub returns : goal.returns
returns c =
    after_is _ _ _ _ (c.in_order.ensures c.if-not-in_order.false) (c.in_order-2.ensures c.if-not-in_order-2.false)
