use Rattle.definition.specs.Floats.{◌⊖◌, ◌⊗◌, ◌⊘◌, ◌≺◌, 0·0, f64}
use Rattle.definition.specs.Metrics.{scaled}
use Rattle.plane.specs.Vectors.{vec}
use Rattle.plane.proofs.Laws.{zero_over_zero}
use Rattle.plane.proofs.jacobian.scaled.Goals as goal

pub returns-then-lengths : goal.returns-then-lengths
unfolding scaled vec ◌⊖◌ ◌⊗◌ ◌⊘◌ ◌≺◌ 0·0 f64
returns-then-lengths c = λ e f. rw (← e, ← f, c.if-lengths.true)

pub returns : goal.returns
unfolding scaled vec ◌⊖◌ ◌⊗◌ ◌⊘◌ ◌≺◌ 0·0 f64
returns c = λ e f. rw (← e, ← f, c.if-lengths.false, zero_over_zero)
