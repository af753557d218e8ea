use Rattle.trials.specs.Floors.{AllNeutral}
use Rattle.trials.proofs.first_corner.all_neutral.Given as goal

-- the nodes before j are neutral
abbrev pub invariant-loop-j : goal.invariant-loop-j
invariant-loop-j l = AllNeutral l.w l.q l.far.at l.j l.a l.b
