use Rattle.std.specs.Prelude.{◌≡◌, ◌^◌, ◌≤◌}
use Rattle.laws.specs.Kit.{List, foldl, drop, Float}
use Rattle.definition.specs.Floats.{◌⊕◌}
use Rattle.definition.specs.Cells.{Live, Mesh}
use Rattle.definition.specs.Region.{area_of, region_area}
use Rattle.regions.specs.Fill.{Shown}
use Rattle.regions.proofs.region.region_area.Given as goal

abbrev pub invariant-loop-i : goal.invariant-loop-i
invariant-loop-i l =
    (l.i ≤ l.n) × (l.n ≤ 2 ^ 32) × ((m : Mesh) (xs : List Live) → Shown l.w l.q l.lay.slots l.lay.points l.n m xs → foldl (λ (v : Float) (x : Live). v ⊕ area_of m x.cell) l.sum (drop l.i xs) ≡ region_area m xs)
