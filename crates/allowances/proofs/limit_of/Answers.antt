-- The smaller of two.
use Rattle.laws.specs.Kit.{arith, rules}
use Rattle.definition.specs.Numbers.{max_attempts}
use Rattle.definition.specs.Job.{job_limit}
use Rattle.allowances.proofs.limit_of.Goals as goal

pub returns-then-own-usual : goal.returns-then-own-usual
unfolding job_limit max_attempts
returns-then-own-usual c = omega (arith, c.if-own-usual.true, c.entitled-own.ensures)

pub returns : goal.returns
unfolding job_limit max_attempts
returns c = omega (arith, c.if-own-usual.false, c.entitled-own.ensures)
