use Rattle.rules.specs.Settings.{quality_of}
use Rattle.trials.specs.Kept.{listed}
use Rattle.trials.specs.Ranked.{part, trial_at}
use Rattle.trials.proofs.Rounds.{Gone}
use Rattle.trials.proofs.ranked.with_node.Given as goal

abbrev pub invariant-loop-j : goal.invariant-loop-j
invariant-loop-j l = Gone (trial_at (quality_of l.y) l.q l.h.a l.h.b l.h.c) (part l.w l.far.at l.far.count) (listed l.initial.scores l.initial.nodes l.count) l.y.pairs l.far.count l.scores l.nodes l.k l.j
