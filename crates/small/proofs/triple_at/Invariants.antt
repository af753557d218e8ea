use Rattle.std.specs.Prelude.{◌≡◌}
use Rattle.small.specs.Counts.{choices}
use Rattle.small.proofs.Places.{CountingOff}
use Rattle.small.proofs.triple_at.Given as goal

abbrev pub invariant-loop-block : goal.invariant-loop-block
invariant-loop-block l = CountingOff 2 0 l.n l.place l.first l.after l.left × (l.block ≡ choices 2 l.after)

abbrev pub decreases-loop-block : goal.decreases-loop-block
decreases-loop-block l = l.after
