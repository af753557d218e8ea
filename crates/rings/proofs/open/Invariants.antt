use Rattle.rings.proofs.Opens.{Opened}
use Rattle.rings.proofs.open.Given as goal

abbrev pub invariant-loop-c : goal.invariant-loop-c
invariant-loop-c l = Opened l.initial.w l.w l.b l.n l.t l.c
