use mathlib.Core.Path.{refl}
use Rattle.definition.specs.Floats.{◌⊘◌}
use Rattle.definition.specs.Attempt.{inward_normal}
use Rattle.plane.specs.Vectors.{vec}
use Rattle.try_quad.proofs.stance.inward_normal.Goals as goal

pub returns : goal.returns
unfolding inward_normal vec ◌⊘◌
returns c = refl
