use Rattle.acceptance.proofs.Counting.{SoFar}
use Rattle.acceptance.proofs.lists.meshed.Given as goal

abbrev pub invariant-loop-place : goal.invariant-loop-place
invariant-loop-place l = SoFar l.points l.stored l.place l.made l.agreed
