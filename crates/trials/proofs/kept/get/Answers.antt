-- Each field is the array's element.
use mathlib.Core.Path.{refl}
use Rattle.trials.specs.Kept.{row, trial_of, quad_of, quad_at}
use Rattle.trials.proofs.kept.get.Goals as goal

pub returns : goal.returns
unfolding row trial_of quad_of quad_at
returns c = refl
