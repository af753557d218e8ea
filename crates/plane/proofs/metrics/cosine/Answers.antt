use Rattle.laws.specs.Kit.{◌∙◌, rules}
use Rattle.plane.proofs.Measured.{cosine_by}
use Rattle.plane.proofs.metrics.cosine.Goals as goal

pub returns : goal.returns
returns c =
    λ e.
    c.clamp.ensures ∙ cosine_by _ _ _ c.between.ensures c.between-2.ensures c.dot.ensures e
