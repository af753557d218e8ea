use Rattle.std.specs.Prelude.{◌≡◌, ◌^◌, ◌≤◌}
use Rattle.laws.specs.Kit.{List, drop}
use Rattle.definition.specs.Lists.{all}
use Rattle.definition.specs.Cells.{Live, Mesh, new_quad}
use Rattle.joints.specs.Table.{Locks}
use Rattle.regions.specs.Listing.{Listed}
use Rattle.regions.proofs.Locked.{spared}
use Rattle.regions.proofs.spares.spares.Given as goal

abbrev pub invariant-loop-i : goal.invariant-loop-i
invariant-loop-i l =
    (l.i ≤ l.n) × (l.n ≤ 2 ^ 32) × ((m : Mesh) (xs : List Live) → Listed l.w l.lay.slots l.lay.points l.n m xs → Locks l.j m.locked → all (spared m (new_quad l.a l.b l.c l.d)) (drop l.i xs) ≡ all (spared m (new_quad l.a l.b l.c l.d)) xs)
