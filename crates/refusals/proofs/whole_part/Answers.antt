-- The product and its floor are the definition's.
use Rattle.laws.specs.Kit.{refl}
use Rattle.definition.specs.Floats.{◌⊗◌, f64}
use Rattle.exact.specs.GridTest.{1024·0, is_whole_part}
use Rattle.refusals.proofs.whole_part.Goals as goal

pub returns : goal.returns
unfolding is_whole_part 1024·0 ◌⊗◌ f64
returns c = rw c.floor.ensures refl
