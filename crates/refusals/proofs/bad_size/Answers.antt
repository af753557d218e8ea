-- The code's comparisons are the definition's.
use Rattle.definition.specs.Floats.{◌≼◌, 0·0, 1/64, 8·0, f64}
use Rattle.definition.specs.Call.{least_size, most_size, bad_size}
use Rattle.refusals.proofs.bad_size.Goals.{then-a, else-a+then-a-2, else-a+else-a-2}
use Rattle.refusals.proofs.bad_size.Goals as goal

pub returns : goal.returns
unfolding bad_size ◌≼◌ least_size most_size 0·0 1/64 8·0 f64
returns c = elim c.if-a.branch [
  | then-a w ↦ rw (w.result-is, w.if-a.true)
  | else-a+then-a-2 w ↦ rw (w.result-is, w.if-a.false, w.if-a-2.true)
  | else-a+else-a-2 w ↦ rw (w.result-is, w.if-a.false, w.if-a-2.false)
]
