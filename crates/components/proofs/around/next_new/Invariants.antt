use Rattle.laws.specs.Kit.{ℕ, List}
use Rattle.definition.specs.Cells.{Mesh, Live}
use Rattle.cells.specs.Walk.{left}
use Rattle.components.specs.Seek.{Ring, Passed}
use Rattle.components.proofs.around.next_new.Given as goal

abbrev pub invariant-loop-c : goal.invariant-loop-c
invariant-loop-c l = (u k : ℕ) (m : Mesh) (xs rest : List Live) → Ring l.w l.lay.slots l.lay.points k u l.from m xs rest → Passed l.w l.lay.slots l.lay.points k u l.y l.z l.c m xs rest

abbrev pub decreases-loop-c : goal.decreases-loop-c
decreases-loop-c l = left l.w l.lay.slots l.lay.points l.c
