use Rattle.std.specs.Prelude.{◌≡◌, ◌-◌, ◌≤◌}
use Rattle.laws.specs.Kit.{List, length}
use Rattle.definition.specs.Cells.{Mesh, Live}
use Rattle.components.specs.Flood.{Marked}
use Rattle.components.proofs.Pieces.{Taking}
use Rattle.components.proofs.near.leaves_odd_near.Given as goal

abbrev pub invariant-loop-found : goal.invariant-loop-found
invariant-loop-found l =
    (length l.w ≡ length l.initial.w) × (l.k ≤ l.lay.slots) × ((m : Mesh) (xs : List Live) → Marked l.initial.w l.lay.slots l.lay.points l.n m xs → Taking l.initial.w l.w l.lay.slots l.lay.points l.k l.found m xs)

abbrev pub decreases-loop-found : goal.decreases-loop-found
decreases-loop-found l = l.lay.slots - l.k
