use Rattle.laws.specs.Kit.{◌∙◌, rules}
use Rattle.definition.specs.Lists.{any}
use Rattle.definition.specs.Metrics.{corners}
use Rattle.plane.proofs.metrics.bent.Goals as goal

pub returns : goal.returns
unfolding any corners
returns c =
    c.any_of.ensures
    ∙ rw (
      c.not_convex.ensures,
      c.not_convex-2.ensures,
      c.not_convex-3.ensures,
      c.not_convex-4.ensures,
    )
