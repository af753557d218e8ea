use Prim.Native.Nat.{◌<◌}
use lib.ListN.{length}
use Rattle.definition.specs.Cells.{Mesh}
use Rattle.cells.specs.Rep.{Rep}
use Rattle.cells.specs.Walk.{left}
use Rattle.candidates.proofs.Growth.{Ringed}
use Rattle.candidates.proofs.spans.with_ring.Given as goal

abbrev pub invariant-loop-c : goal.invariant-loop-c
invariant-loop-c l = (m : Mesh) → Rep l.w l.lay.slots l.lay.points m → l.a < length m.points → Ringed l.w l.lay.slots l.a l.c m l.initial.h l.h

abbrev pub decreases-loop-c : goal.decreases-loop-c
decreases-loop-c l = left l.w l.lay.slots l.lay.points l.c
