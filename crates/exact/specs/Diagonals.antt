-- On the grid of 1 / 1024 a flip keeps the summed area of its two triangles, whatever their winding:
-- its tests' signs are exact, and both pairs have the area |(v - u) x (p - q)|.
-- Assumes nothing.
use Rattle.std.specs.Prelude.{◌≡◌, ◌⊎◌, ◌+◌, ◌*◌, ◌^◌, ◌<◌}
use Rattle.laws.specs.Kit.{refl, sym, ◌∙◌, ap, ap₂, inl, inr, true, not, ℕ, arith, lit<, lit≤, not-true, binary64, le, mul}
use Rattle.definition.specs.Floats.{◌≼◌, 0·0}
use Rattle.definition.specs.Floats as floats
use Rattle.definition.specs.Plane.{Node, side}
use Rattle.definition.specs.Plane as plane
use Rattle.definition.specs.Exact.{twice_tri}
use Rattle.exact.specs.Near.{Whole, Near, abs, ◌⊖◌, ◌⊗◌}
use Rattle.exact.specs.Values.{whole}
use Rattle.exact.specs.Order.{◌⊏◌}
use Rattle.exact.specs.Cross.{crossW}
use Rattle.exact.specs.Areas.{Placed, X, Y}

-- strictly on two sides
abbrev pub Opposite : Whole → Whole → Type 0
Opposite j k = ((j.1 < j.0) × (k.0 < k.1)) ⊎ ((j.0 < j.1) × (k.1 < k.0))
