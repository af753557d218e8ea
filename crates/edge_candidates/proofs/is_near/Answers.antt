use Rattle.laws.specs.Kit.{ap, Float}
use Rattle.definition.specs.Floats.{◌≼◌, 0·866, f64}
use Rattle.definition.specs.Numbers.{edge_dot}
use Rattle.edge_candidates.proofs.is_near.Goals as goal

pub returns : goal.returns
unfolding edge_dot ◌≼◌ 0·866 f64
returns c = ap (λ (x : Float). edge_dot ≼ x) c.dot.ensures
