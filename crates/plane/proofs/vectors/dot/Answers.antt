use Rattle.laws.specs.Kit.{refl}
use Rattle.definition.specs.Floats.{◌⊕◌, ◌⊗◌}
use Rattle.definition.specs.Plane.{dot}
use Rattle.plane.specs.Vectors.{vec}
use Rattle.plane.proofs.vectors.dot.Goals as goal

pub returns : goal.returns
unfolding dot vec ◌⊕◌ ◌⊗◌
returns c = refl
