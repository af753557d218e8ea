use Rattle.trials.proofs.Steps.{Met}
use Rattle.trials.proofs.kept.place.Given as goal

abbrev pub invariant-loop-p : goal.invariant-loop-p
invariant-loop-p l = Met l.scores l.nodes l.count l.t l.p
