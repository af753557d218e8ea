-- On the grid of 1 / 1024 a region whose float area agrees with the quad's has exactly the quad's area:
-- the areas and their sums have no rounding error, two that differ do so by 2 ^ -21 at least, and the slack,
-- 1e-9 times at most 256, is below that.
-- Assumes nothing.
use Rattle.laws.specs.Kit.{refl, sym, ◌∙◌, ap, Bool, true, false, not, cond, ℕ, zero, suc, arith, dec_le, mul-le-mul_right, lit<, lit≤, T, not-true, pow_pos, pos, List, [], map, foldl, length, Float, binary64, nan, fin, inf, of_bits, fits, lt, add, sub, mul}
use Rattle.std.specs.Prelude.{◌*ℤ◌, ◌≡◌, ◌+◌, ◌*◌, ◌^◌, ◌<◌, ◌≤◌, ◌∷◌, ◌++◌}
use Rattle.std.specs.Float.{Format}
use Rattle.std.specs.Float.Ieee.Fits.{sub-fits, div-fits}
use Rattle.definition.specs.Floats.{◌≺◌, f64, greater, 0·0, 1·0, 1e-9}
use Rattle.definition.specs.Floats as floats
use Rattle.definition.specs.Lists.{flat_map}
use Rattle.definition.specs.Numbers.{area_slack}
use Rattle.definition.specs.Plane as plane
use Rattle.definition.specs.Cells.{Tri, Quad, Cell, tri, quad, Live, Mesh, node_at, tri_of, tris_of}
use Rattle.definition.specs.Region.{area_of, region_area, area_agrees}
use Rattle.definition.specs.Exact.{units}
use Rattle.definition.specs.Account.{sum, tri_area, quad_area, tris_area}
use Rattle.exact.specs.Near.{Whole, Near, Within, abs, ◌⊗◌, ◌⊙◌}
use Rattle.exact.specs.Values.{whole, Ok}
use Rattle.exact.specs.Order.{◌⊑◌}
use Rattle.exact.specs.Units.{ofℤ, W}
use Rattle.exact.specs.Exactly.{Is}
use Rattle.exact.specs.Areas.{Placed}

-- ---- the slack
-- in units
abbrev pub slack_units : ℕ
slack_units = 4835703278458517 * 2 ^ 992

-- ---- the region
-- up to 2 ^ 20 triangles, each of at most 2 ^ 29 parts
abbrev pub most : ℕ
most = 1125899906842624
