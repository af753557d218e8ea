use Rattle.laws.specs.Kit.{◌∙◌, rules}
use Rattle.definition.specs.Lists.{any}
use Rattle.plane.proofs.sides.any_negative.Goals as goal

pub returns : goal.returns
unfolding any
returns c =
    c.any_of.ensures
    ∙ rw (
      c.negative.ensures,
      c.negative-2.ensures,
      c.negative-3.ensures,
      c.negative-4.ensures,
    )
