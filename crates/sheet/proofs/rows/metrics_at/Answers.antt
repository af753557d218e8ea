use Rattle.laws.specs.Kit.{◌∙◌, rules}
use Rattle.sheet.proofs.Corners.{measures_at}
use Rattle.sheet.proofs.rows.metrics_at.Goals as goal

pub returns : goal.returns
returns c = c.quad_metrics.ensures ∙ measures_at _ _ _ _ (search rules)
