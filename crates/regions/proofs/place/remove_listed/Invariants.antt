use Rattle.std.specs.Prelude.{◌≡◌, ◌^◌, ◌≤◌}
use Rattle.laws.specs.Kit.{List, length}
use Rattle.definition.specs.Cells.{Live, Mesh}
use Rattle.laws.specs.Frames.{Keeps}
use Rattle.cells.specs.Layout.{mesh_end}
use Rattle.regions.specs.Listing.{Listed}
use Rattle.regions.proofs.Places.{Removing}
use Rattle.regions.proofs.place.remove_listed.Given as goal

abbrev pub invariant-loop-i : goal.invariant-loop-i
invariant-loop-i l =
    (length l.w ≡ length l.initial.w) × (l.i ≤ l.n) × (l.n ≤ l.lay.slots) × (l.lay.slots ≤ 2 ^ 32) × Keeps l.initial.w l.w (mesh_end l.lay.slots l.lay.points) × ((m : Mesh) (xs : List Live) → Listed l.initial.w l.lay.slots l.lay.points l.n m xs → Removing l.w l.lay.slots l.lay.points l.i m xs)
