-- Met are those up to the corner c, where the next one is, unless the ring ends there.
-- Each one more is listed, and there is room for so many.
use Rattle.std.specs.Prelude.{◌≡◌, ◌-◌, ◌^◌, ◌≤◌}
use Rattle.laws.specs.Kit.{List, length}
use Rattle.definition.specs.Cells.{Mesh, Live}
use Rattle.components.specs.Flood.{Marked}
use Rattle.components.proofs.Meets.{Going}
use Rattle.components.proofs.around.meet_ring.Given as goal

abbrev pub invariant-loop-c : goal.invariant-loop-c
invariant-loop-c l =
    (length l.w ≡ length l.initial.w) × (l.k ≤ l.lay.slots) × (l.lay.slots ≤ 2 ^ 32)
    × ((m : Mesh) (xs : List Live) → Marked l.initial.w l.lay.slots l.lay.points l.n m xs → Going l.initial.w l.w l.lay.slots l.lay.points l.x l.y l.z l.k l.c m xs)

abbrev pub decreases-loop-c : goal.decreases-loop-c
decreases-loop-c l = l.lay.slots - l.k
