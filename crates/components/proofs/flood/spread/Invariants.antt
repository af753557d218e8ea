use Rattle.std.specs.Prelude.{◌≡◌, ◌^◌, ◌≤◌}
use Rattle.laws.specs.Kit.{List, length}
use Rattle.definition.specs.Cells.{Mesh, Live}
use Rattle.components.specs.Flood.{Flooding}
use Rattle.components.proofs.flood.spread.Given as goal

abbrev pub invariant-loop-head : goal.invariant-loop-head
invariant-loop-head l =
    (length l.w ≡ length l.initial.w) × (l.from ≤ l.head) × (l.k ≤ l.count) × (l.count ≤ l.lay.slots) × (l.lay.slots ≤ 2 ^ 32)
    × ((m : Mesh) (xs : List Live) (x : Live) → Flooding l.initial.w l.initial.w l.lay.slots l.lay.points l.k l.from m xs x → Flooding l.initial.w l.w l.lay.slots l.lay.points l.count l.head m xs x)
