use Rattle.definition.specs.Floats.{◌≺◌, ◌⊗◌, 0·4, 2·5, f64}
use Rattle.definition.specs.Numbers.{edge_low, edge_high}
use Rattle.edge_candidates.proofs.edge_reach.Goals as goal

pub returns-then-d-target : goal.returns-then-d-target
unfolding ◌≺◌ ◌⊗◌ edge_low edge_high 0·4 2·5 f64
returns-then-d-target c = rw c.if-d-target.true

pub returns : goal.returns
unfolding ◌≺◌ ◌⊗◌ edge_low edge_high 0·4 2·5 f64
returns c = rw c.if-d-target.false
