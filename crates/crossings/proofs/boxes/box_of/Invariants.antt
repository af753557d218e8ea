use Rattle.std.specs.Prelude.{◌+◌, ◌*◌}
use Rattle.laws.specs.Kit.{arith, Float}
use Rattle.definition.specs.Cells.{Mesh}
use Rattle.cells.specs.Walk.{left}
use Rattle.crossings.specs.Cross.{Known}
use Rattle.crossings.proofs.Tests.{ring_read}
use Rattle.crossings.proofs.Boxing.{Boxed, a_within, after_within, before_within, boxed_start, boxed_more, boxed_less, boxed_read, boxed_end}
use Rattle.crossings.proofs.boxes.box_of.Given as goal

abbrev pub invariant-loop-c : goal.invariant-loop-c
invariant-loop-c l = (k : Float) (m : Mesh) → Known l.w l.q l.lay.slots l.lay.points l.n k m → Boxed l.w l.lay.slots l.lay.points l.a l.c m l.b

abbrev pub decreases-loop-c : goal.decreases-loop-c
decreases-loop-c l = left l.w l.lay.slots l.lay.points l.c
