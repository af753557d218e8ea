use Rattle.laws.specs.Kit.{◌∙◌, rules}
use Rattle.plane.proofs.sides.all_positive.Goals as goal

pub returns : goal.returns
returns c = c.all_of.ensures ∙ rw (c.positive.ensures, c.positive-2.ensures, c.positive-3.ensures)
