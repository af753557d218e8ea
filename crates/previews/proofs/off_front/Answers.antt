-- A cost of nothing.
use mathlib.Core.Path.{refl}
use Rattle.definition.specs.Counts.{nothing_spent}
use Rattle.definition.specs.Preview.{cost}
use Rattle.previews.proofs.off_front.Goals as goal

pub returns : goal.returns
unfolding cost nothing_spent
returns c = refl
