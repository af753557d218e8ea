use Rattle.definition.specs.Floats.{◌⊖◌, ◌⊗◌, ◌⊘◌, ◌≺◌, 0·0, f64}
use Rattle.definition.specs.Metrics.{scaled}
use Rattle.plane.specs.Vectors.{vec}
use Rattle.trials.proofs.Corners.{zero_over_zero}
use Rattle.trials.proofs.first_corner.scaled.Goals as goal

pub returns-then-lengths : goal.returns-then-lengths
unfolding scaled vec ◌⊖◌ ◌⊗◌ ◌⊘◌ ◌≺◌ 0·0 f64
returns-then-lengths c = rw (← c.norm-2.ensures, ← c.norm.ensures, c.if-lengths.true)

pub returns : goal.returns
unfolding scaled vec ◌⊖◌ ◌⊗◌ ◌⊘◌ ◌≺◌ 0·0 f64
returns c = rw (← c.norm-2.ensures, ← c.norm.ensures, c.if-lengths.false, zero_over_zero)
