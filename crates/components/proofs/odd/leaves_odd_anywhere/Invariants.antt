use Rattle.std.specs.Prelude.{◌≡◌, ◌^◌, ◌≤◌}
use Rattle.laws.specs.Kit.{List, length}
use Rattle.definition.specs.Cells.{Mesh, Live}
use Rattle.components.specs.Flood.{Marked}
use Rattle.components.proofs.Odds.{Evens}
use Rattle.components.proofs.odd.leaves_odd_anywhere.Given as goal

abbrev pub invariant-loop-i : goal.invariant-loop-i
invariant-loop-i l =
    (length l.w ≡ length l.initial.w) × (l.used ≤ l.lay.slots) × (l.lay.slots ≤ 2 ^ 32)
    × ((m : Mesh) (xs : List Live) → Marked l.initial.w l.lay.slots l.lay.points l.n m xs → m.used ≡ l.used → Evens l.initial.w l.w l.lay.slots l.lay.points l.k l.i m xs)
