use Rattle.blocked_edges.proofs.Opening.{Opened}
use Rattle.blocked_edges.proofs.open.Given as goal

abbrev pub invariant-loop-v : goal.invariant-loop-v
invariant-loop-v l = Opened l.initial.w l.w l.b l.n l.p l.v
