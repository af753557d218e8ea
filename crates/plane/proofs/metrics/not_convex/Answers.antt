use Rattle.laws.specs.Kit.{◌∙◌, rules}
use Rattle.definition.specs.Metrics.{corner_of, not_convex}
use Rattle.plane.proofs.metrics.not_convex.Goals as goal

pub returns : goal.returns
unfolding not_convex corner_of
returns c = c.tiny.ensures ∙ rw c.cross_of.ensures
