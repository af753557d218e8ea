-- A difference.
use Rattle.laws.specs.Kit.{refl, rules}
use Rattle.allowances.proofs.attempts_made.Goals as goal

pub returns : goal.returns
returns c = refl
