use Rattle.retrace.proofs.Placing.{Going}
use Rattle.retrace.proofs.quads.take_out.Given as goal

abbrev pub invariant-loop-k : goal.invariant-loop-k
invariant-loop-k l = Going l.initial.work l.work l.trace l.lay.slots l.lay.points l.from l.n l.k
