use Rattle.laws.specs.Kit.{refl}
use Rattle.definition.specs.Floats.{◌⊘◌}
use Rattle.definition.specs.Plane.{over}
use Rattle.plane.specs.Vectors.{vec}
use Rattle.plane.proofs.vectors.over.Goals as goal

pub returns : goal.returns
unfolding over vec ◌⊘◌
returns c = refl
