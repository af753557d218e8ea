use Rattle.definition.specs.Floats.{◌⊗◌, ◌≺◌, 0·0, f64}
use Rattle.laws.specs.Kit.{rules}
use Rattle.crossings.proofs.cross.other_side.Goals as goal

pub returns : goal.returns
unfolding ◌⊗◌ ◌≺◌ 0·0 f64
returns c = rw c.side.ensures
