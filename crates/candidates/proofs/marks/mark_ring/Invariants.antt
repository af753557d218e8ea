use mathlib.Core.Path.{◌≡◌}
use Prim.Native.Nat.{◌<◌}
use lib.ListN.{length}
use Rattle.definition.specs.Cells.{Mesh}
use Rattle.cells.specs.Rep.{Rep}
use Rattle.cells.specs.Walk.{left}
use Rattle.candidates.proofs.Words.{Raising}
use Rattle.candidates.proofs.marks.mark_ring.Given as goal

abbrev pub invariant-loop-c : goal.invariant-loop-c
invariant-loop-c l = (length l.w ≡ length l.initial.w) × ((m : Mesh) → Rep l.initial.w l.lay.slots l.lay.points m → l.a < length m.points → Raising l.initial.w l.w l.lay.slots l.lay.points l.b l.a l.c m)

abbrev pub decreases-loop-c : goal.decreases-loop-c
decreases-loop-c l = left l.initial.w l.lay.slots l.lay.points l.c
