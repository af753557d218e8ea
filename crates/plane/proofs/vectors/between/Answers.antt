use Rattle.laws.specs.Kit.{refl}
use Rattle.definition.specs.Floats.{◌⊖◌}
use Rattle.definition.specs.Plane.{flat, from_to}
use Rattle.plane.specs.Points.{node}
use Rattle.plane.specs.Vectors.{vec}
use Rattle.plane.proofs.vectors.between.Goals as goal

pub returns : goal.returns
unfolding from_to vec node flat ◌⊖◌
returns c = refl
