use Rattle.definition.specs.Floats.{◌≺◌, ◌⊗◌, 2·5, f64}
use Rattle.definition.specs.Numbers.{edge_high}
use Rattle.candidates.proofs.too_far.Goals as goal

pub returns-then-d-target : goal.returns-then-d-target
unfolding ◌≺◌ ◌⊗◌ edge_high 2·5 f64
returns-then-d-target c = rw c.if-d-target.true

pub returns : goal.returns
unfolding ◌≺◌ ◌⊗◌ edge_high 2·5 f64
returns c = rw c.if-d-target.false
