use Rattle.trials.proofs.Steps.{Pushed}
use Rattle.trials.proofs.kept.put.Given as goal

abbrev pub invariant-loop-i : goal.invariant-loop-i
invariant-loop-i l = Pushed l.initial.scores l.initial.nodes l.count l.p l.initial.carried l.scores l.nodes l.carried l.i
