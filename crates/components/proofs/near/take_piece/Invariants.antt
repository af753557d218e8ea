use Rattle.std.specs.Prelude.{◌≡◌, ◌-◌, ◌^◌, ◌<◌, ◌≤◌, ◌++◌}
use Rattle.laws.specs.Kit.{List, length}
use Rattle.definition.specs.Cells.{Mesh, Live}
use Rattle.components.specs.Flood.{Flooding}
use Rattle.components.proofs.Pieces.{Spreading}
use Rattle.components.proofs.near.take_piece.Given as goal

abbrev pub invariant-loop-lay : goal.invariant-loop-lay
invariant-loop-lay l =
    (length l.w ≡ length l.initial.w) × (l.k < l.head) × (l.count ≤ l.lay.slots) × (l.lay.slots ≤ 2 ^ 32)
    × ((m : Mesh) (region xs rest : List Live) (x : Live) → Flooding l.initial.w l.initial.w l.lay.slots l.lay.points l.initial.count l.initial.head m xs x → xs ≡ region ++ rest → l.n ≡ length region
    → Spreading l.initial.w l.w l.lay.slots l.lay.points l.count l.head l.found m region xs x)

abbrev pub decreases-loop-lay : goal.decreases-loop-lay
decreases-loop-lay l = l.lay.slots - l.head
