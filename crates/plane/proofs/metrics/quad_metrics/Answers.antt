use Rattle.laws.specs.Kit.{◌∙◌, rules}
use Rattle.plane.proofs.Ground.{quad_metrics_ground}
use Rattle.plane.proofs.metrics.quad_metrics.Goals as goal

pub returns : goal.returns
returns c =
    c.quad_metrics_of.ensures ∙ quad_metrics_ground _ _ c.at.ensures c.at-2.ensures _ c.at-3.ensures _ c.at-4.ensures
