use Rattle.groups.proofs.Links.{Running}
use Rattle.groups.proofs.forest.join_runs.Given as goal

abbrev pub invariant-loop-i : goal.invariant-loop-i
invariant-loop-i l = Running l.w l.m l.n l.initial.parents l.parents l.i
