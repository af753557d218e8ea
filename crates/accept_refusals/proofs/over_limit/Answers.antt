-- `accept_refusals::over_limit` meets its contract: a test that is taken breaks a limit; where none is, all hold.
-- Assumes nothing.
use mathlib.Core.Path.{sym}
use native.Mathlib.Omega.{arith}
use Rattle.laws.specs.Bools.{holds}
use Rattle.accept_refusals.specs.Passed.{limited, limits_pass}
use Rattle.accept_refusals.proofs.over_limit.Goals as goal

pub returns-then-a-gt-MOST : goal.returns-then-a-gt-MOST
returns-then-a-gt-MOST c = sym (holds _ (λ e. let h = limited _ e in omega arith))

pub returns-then-a-gt-MOST-2 : goal.returns-then-a-gt-MOST-2
returns-then-a-gt-MOST-2 c = sym (holds _ (λ e. let h = limited _ e in omega arith))

pub returns-then-a-gt-MOST-3 : goal.returns-then-a-gt-MOST-3
returns-then-a-gt-MOST-3 c = sym (holds _ (λ e. let h = limited _ e in omega arith))

pub returns-then-a-gt-MOST-4 : goal.returns-then-a-gt-MOST-4
returns-then-a-gt-MOST-4 c = sym (holds _ (λ e. let h = limited _ e in omega arith))

pub returns-then-a-gt-MOST-5 : goal.returns-then-a-gt-MOST-5
returns-then-a-gt-MOST-5 c = sym (holds _ (λ e. let h = limited _ e in omega arith))

pub returns-then-a-gt-MOST-6 : goal.returns-then-a-gt-MOST-6
returns-then-a-gt-MOST-6 c = sym (holds _ (λ e. let h = limited _ e in omega arith))

pub returns : goal.returns
returns c = sym (limits_pass _ (omega arith))
