-- The test that is taken.
use Rattle.laws.specs.Kit.{arith, eqb-true, eqb-false, ltb-true, not-true, not-false}
use Rattle.balance.proofs.runs.is_uneven.Goals as goal

pub returns-then-u-v : goal.returns-then-u-v
returns-then-u-v c = record { yes_is = λ e. (c.if-u-v.true, eqb-false _ _ (not-true _ e)); no_is = λ e l. eqb-true _ _ (not-false _ e) }

pub returns-else-u-v : goal.returns-else-u-v
returns-else-u-v c = record { yes_is = λ e. absurd (omega (arith, ltb-true _ _ e)); no_is = λ e l. absurd (omega arith) }
