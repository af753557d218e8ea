use Rattle.laws.specs.Kit.{refl}
use Rattle.definition.specs.Floats.{◌⊖◌, ◌⊗◌}
use Rattle.definition.specs.Plane.{cross, flat}
use Rattle.plane.specs.Points.{node}
use Rattle.plane.proofs.sides.cross_of.Goals as goal

pub returns : goal.returns
unfolding cross node flat ◌⊖◌ ◌⊗◌
returns c = refl
