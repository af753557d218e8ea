use mathlib.Core.Path.{ap, ◌∙◌}
use Rattle.definition.specs.Metrics.{score}
use Rattle.definition.specs.Plane.{flat}
use Rattle.plane.specs.Points.{node}
use borrow.Author.Rules.{rules}
use Rattle.kernels.proofs.sedgepick_quad_score.Goals as goal

pub returns : goal.returns
unfolding flat node
returns c = c.score.ensures ∙ ap score c.quad_metrics_of-m.ensures
