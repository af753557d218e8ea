use Rattle.small.proofs.Places.{CountingOff}
use Rattle.small.proofs.pair_at.Given as goal

abbrev pub invariant-loop-after : goal.invariant-loop-after
invariant-loop-after l = CountingOff 1 l.from l.n l.place l.first l.after l.left

abbrev pub decreases-loop-after : goal.decreases-loop-after
decreases-loop-after l = l.after
