-- Without a trial the attempt is refused under the shape.
use Rattle.pairs.proofs.Orders.{none_kept, some_kept}
use Rattle.pairs.proofs.try_pairs.Goals as goal

pub returns-then-count-eq0 : goal.returns-then-count-eq0
returns-then-count-eq0 c = λ base a b m ts can l v rd. none_kept _ _ base _ _ _ _ _ _ _ _ _ _ _ _ _ _ can v c.if-count-eq0.true c.without_trial.ensures

pub try_in_order-requires : goal.try_in_order-requires
try_in_order-requires c = c.requires

pub returns : goal.returns
returns c =
    λ base a b m ts can l v rd. some_kept _ _ _ base _ _ _ _ _ _ _ _ _ _ can.kept.count c.if-count-eq0.false (c.try_in_order.ensures base a b m ts can l v rd)
