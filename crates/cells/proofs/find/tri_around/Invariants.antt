use Rattle.cells.specs.Rep.{Rep}
use Rattle.definition.specs.Cells.{Mesh}
use Rattle.cells.specs.Walk.{left}
use Rattle.cells.proofs.Fronts.{NoTri}
use Rattle.cells.proofs.find.tri_around.Given as goal

abbrev pub invariant-loop-c : goal.invariant-loop-c
invariant-loop-c l = (m : Mesh) → Rep l.w l.lay.slots l.lay.points m → NoTri l.w l.lay.slots l.lay.points l.u l.v l.c m

abbrev pub decreases-loop-c : goal.decreases-loop-c
decreases-loop-c l = left l.w l.lay.slots l.lay.points l.c
