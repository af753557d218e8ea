use Rattle.std.specs.Prelude.{◌≡◌, ◌^◌, ◌≤◌, ◌++◌}
use Rattle.laws.specs.Kit.{List, length}
use Rattle.definition.specs.Cells.{Mesh, Live}
use Rattle.cells.specs.Walk.{left}
use Rattle.regions.specs.Listing.{State}
use Rattle.regions.proofs.Visits.{Going}
use Rattle.regions.proofs.flood.visit_edge.Given as goal

abbrev pub invariant-loop-c : goal.invariant-loop-c
invariant-loop-c l = (length l.w ≡ length l.initial.w) × (l.lay.slots ≤ 2 ^ 32) × ((m : Mesh) (done todo : List Live) → State l.initial.w l.lay.slots l.lay.points l.n m (done ++ todo) → Going l.initial.w l.w l.lay.slots l.lay.points l.u l.v l.k l.c m done todo)

abbrev pub decreases-loop-c : goal.decreases-loop-c
decreases-loop-c l = left l.w l.lay.slots l.lay.points l.c
