use Rattle.crossings.proofs.Tests.{drawn, can_try, ring_read}
use Rattle.std.specs.Prelude.{◌+◌, ◌*◌}
use Rattle.laws.specs.Kit.{arith}
use Rattle.definition.specs.Cells.{Mesh}
use Rattle.cells.specs.Walk.{left}
use Rattle.crossings.specs.Cross.{Known}
use Rattle.crossings.proofs.Crosses.{Best, best_start, best_more, best_less, best_read, best_end}
use Rattle.crossings.proofs.cross.least_beside.Given as goal

abbrev pub invariant-loop-c : goal.invariant-loop-c
invariant-loop-c l = (m : Mesh) → Known l.w l.q l.lay.slots l.lay.points l.n l.bucket m → Best l.w l.lay.slots l.lay.points l.n l.u l.v l.a l.best l.c m

abbrev pub decreases-loop-c : goal.decreases-loop-c
decreases-loop-c l = left l.w l.lay.slots l.lay.points l.c
