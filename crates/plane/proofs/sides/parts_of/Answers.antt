use Rattle.definition.specs.Floats.{◌⊗◌, ◌≺◌, 0·0, f64}
use Rattle.definition.specs.Plane.{parts, side}
use Rattle.laws.specs.Kit.{rules}
use Rattle.plane.proofs.sides.parts_of.Goals as goal

pub returns : goal.returns
unfolding parts side ◌⊗◌ ◌≺◌ 0·0 f64
returns c = rw (c.cross_of.ensures, c.cross_of-2.ensures)
