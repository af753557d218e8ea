-- Neither x nor y is beyond the limit, or one is.
use Rattle.definition.specs.Call.{outside}
use Rattle.refusals.proofs.outside.Goals.{then-within, else-within}
use Rattle.refusals.proofs.outside.Goals as goal

pub returns : goal.returns
unfolding outside
returns c = λ z. elim c.if-within.branch [
  | then-within w ↦ rw (w.result-is, ← c.within.ensures, w.if-within.true, ← w.within-then-within.ensures)
  | else-within w ↦ rw (w.result-is, ← c.within.ensures, w.if-within.false)
]
