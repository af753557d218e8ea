use Rattle.laws.specs.Kit.{◌∙◌, rules}
use Rattle.plane.proofs.sides.all_negative.Goals as goal

pub returns : goal.returns
returns c = c.all_of.ensures ∙ rw (c.negative.ensures, c.negative-2.ensures, c.negative-3.ensures)
