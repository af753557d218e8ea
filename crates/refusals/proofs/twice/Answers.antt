-- The code's three comparisons are the definition's.
use Rattle.laws.specs.Kit.{arith, ne_eqb}
use Rattle.definition.specs.Cells.{new_tri}
use Rattle.definition.specs.Call.{twice}
use Rattle.refusals.proofs.twice.Goals.{then-n0-n1, else-n0-n1}
use Rattle.refusals.proofs.twice.Goals as goal

pub returns-then-n1-n2 : goal.returns-then-n1-n2
unfolding twice new_tri
returns-then-n1-n2 c = elim c.if-n0-n1.branch [
  | then-n0-n1 w ↦ grind (arith, w)
  | else-n0-n1 w ↦ grind (arith, w, c.if-n1-n2.either)
]

pub returns-else-n1-n2 : goal.returns-else-n1-n2
unfolding twice new_tri
returns-else-n1-n2 c = rw (ne_eqb _ _ c.if-n1-n2.false.0, ne_eqb _ _ c.if-n1-n2.false.1)
