use Rattle.laws.specs.Kit.{refl}
use Rattle.definition.specs.Floats.{◌⊖◌, ◌⊗◌}
use Rattle.definition.specs.Plane.{shoelace, flat}
use Rattle.plane.specs.Points.{node}
use Rattle.plane.proofs.area.shoelace.Goals as goal

pub returns : goal.returns
unfolding shoelace node flat ◌⊖◌ ◌⊗◌
returns c = refl
