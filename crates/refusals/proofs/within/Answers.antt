-- Two comparisons give the magnitude's.
use Rattle.definition.specs.Floats.{◌≼◌, 8·0, f64}
use Rattle.definition.specs.Call.{most_coordinate}
use Rattle.refusals.proofs.Near.{between}
use Rattle.refusals.proofs.within.Goals as goal

pub returns-then-x : goal.returns-then-x
unfolding ◌≼◌ most_coordinate 8·0 f64
returns-then-x c = rw (← between, c.if-x.true)

pub returns-else-x : goal.returns-else-x
unfolding ◌≼◌ most_coordinate 8·0 f64
returns-else-x c = rw (← between, c.if-x.false)
