use Rattle.cells.proofs.Clears.{Part}
use Rattle.cells.proofs.clear.clear.Given as goal

abbrev pub invariant-loop-i : goal.invariant-loop-i
invariant-loop-i g l = Part l.z l.initial.w l.w l.i
