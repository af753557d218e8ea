use Rattle.definition.specs.Floats.{◌≼◌, 0·0, f64}
use Rattle.definition.specs.Lists.{any}
use Rattle.laws.specs.Kit.{rules}
use Rattle.plane.proofs.metrics.flat_side.Goals as goal

pub returns : goal.returns
unfolding any ◌≼◌ 0·0 f64
returns c = c.any_of.ensures
