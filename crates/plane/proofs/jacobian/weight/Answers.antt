use Rattle.laws.specs.Kit.{refl}
use Rattle.definition.specs.Floats.{◌⊕◌, ◌⊗◌, 0·25, 1·0, f64}
use Rattle.plane.proofs.jacobian.weight.Goals as goal

pub returns : goal.returns
unfolding ◌⊕◌ ◌⊗◌ 0·25 1·0 f64
returns c = refl
