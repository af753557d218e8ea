-- Nothing done, nothing left.
use Rattle.laws.specs.Kit.{refl}
use Rattle.account.specs.Jobs.{job_start}
use Rattle.allowances.proofs.start.Goals as goal

pub returns : goal.returns
unfolding job_start
returns c = refl
