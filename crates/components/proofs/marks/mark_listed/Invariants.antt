use Rattle.std.specs.Prelude.{◌≡◌, ◌^◌, ◌≤◌}
use Rattle.laws.specs.Kit.{List, [], length}
use Rattle.definition.specs.Cells.{Mesh, Live}
use Rattle.regions.specs.Listing.{Listed}
use Rattle.components.specs.Flood.{Marked}
use Rattle.components.proofs.Markings.{Marking}
use Rattle.components.proofs.marks.mark_listed.Given as goal

abbrev pub invariant-loop-i : goal.invariant-loop-i
invariant-loop-i l =
    (length l.w ≡ length l.initial.w) × (l.n ≤ l.lay.slots) × (l.i ≤ l.n) × (l.lay.slots ≤ 2 ^ 32)
    × ((m : Mesh) (xs : List Live) → Listed l.initial.w l.lay.slots l.lay.points l.n m xs → Marked l.initial.w l.lay.slots l.lay.points 0 m [] → Marking l.initial.w l.w l.lay.slots l.lay.points l.n l.i m xs)
