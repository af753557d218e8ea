use Rattle.laws.specs.Kit.{◌∙◌, rules}
use Rattle.definition.specs.Lists.{any}
use Rattle.plane.proofs.sides.any_positive.Goals as goal

pub returns : goal.returns
unfolding any
returns c =
    c.any_of.ensures
    ∙ rw (
      c.positive.ensures,
      c.positive-2.ensures,
      c.positive-3.ensures,
      c.positive-4.ensures,
    )
