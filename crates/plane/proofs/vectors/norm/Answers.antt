use Rattle.definition.specs.Floats.{◌⊕◌, ◌⊗◌}
use Rattle.definition.specs.Plane.{norm}
use Rattle.plane.specs.Vectors.{vec}
use Rattle.laws.specs.Kit.{rules}
use Rattle.plane.proofs.vectors.norm.Goals as goal

pub returns : goal.returns
unfolding norm vec ◌⊕◌ ◌⊗◌
returns c = c.sqrt.ensures.is
