use mathlib.Core.Path.{◌≡◌}
use mathlib.Core.List.{List}
use lib.ListN.{length}
use Rattle.definition.specs.Cells.{Live, Mesh}
use Rattle.cells.specs.Walk.{left}
use Rattle.live_regions.specs.Stack.{CanPush}
use Rattle.live_regions.proofs.Walking.{Going}
use Rattle.live_regions.specs.Walls.{number_of}
use Rattle.live_regions.proofs.stack.push_edge.Given as goal

abbrev pub invariant-loop-c : goal.invariant-loop-c
invariant-loop-c l = (length l.w ≡ length l.initial.w) × ((m : Mesh) (out seen st : List Live) → CanPush l.initial.w l.lay.slots l.lay.points l.i l.u l.v m out seen st → Going l.initial.w l.w l.lay.slots l.lay.points l.i l.u l.v (number_of l.k) l.j l.c m out seen st)

abbrev pub decreases-loop-c : goal.decreases-loop-c
decreases-loop-c l = left l.w l.lay.slots l.lay.points l.c
