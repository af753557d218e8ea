use Rattle.std.specs.Prelude.{◌≡◌, ◌^◌, ◌≤◌}
use Rattle.laws.specs.Kit.{List, drop}
use Rattle.definition.specs.Lists.{all}
use Rattle.definition.specs.Cells.{Live, Mesh, new_quad}
use Rattle.definition.specs.Region.{cell_inside}
use Rattle.regions.specs.Fill.{Known, Shown}
use Rattle.regions.proofs.region.all_inside.Given as goal

abbrev pub invariant-loop-i : goal.invariant-loop-i
invariant-loop-i l =
    (l.i ≤ l.n) × (l.n ≤ 2 ^ 32)
    × ((m : Mesh) (xs : List Live) → Shown l.w l.q l.lay.slots l.lay.points l.n m xs → Known m l.a l.b l.c l.d → all (cell_inside m (new_quad l.a l.b l.c l.d)) (drop l.i xs) ≡ all (cell_inside m (new_quad l.a l.b l.c l.d)) xs)
