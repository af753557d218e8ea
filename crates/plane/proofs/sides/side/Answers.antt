use Rattle.definition.specs.Plane.{side}
use Rattle.laws.specs.Kit.{rules}
use Rattle.plane.proofs.sides.side.Goals as goal

pub returns : goal.returns
unfolding side
returns c = c.cross.ensures
