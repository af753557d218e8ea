use Rattle.laws.specs.Kit.{refl}
use Rattle.definition.specs.Floats.{◌≼◌, 1e-12, f64}
use Rattle.definition.specs.Numbers.{tiny_cross}
use Rattle.plane.proofs.sides.tiny.Goals as goal

pub returns : goal.returns
unfolding ◌≼◌ tiny_cross 1e-12 f64
returns c = refl
