-- From the test of a trial to its four corners: the area,
-- the corners and the largest clamped cosine are each asked of the four at once.
-- Assumes nothing.
use Rattle.std.specs.Prelude.{◌≡◌, ◌&&◌, ◌||◌, ◌+◌, ◌*◌, ◌^◌, ◌<◌, ◌≤◌, ◌∷◌}
use Rattle.laws.specs.Kit.{refl, sym, Bool, true, false, not, cond, ℕ, arith, T, not-true, [], map, Float, binary64, fin, inf, of_bits, fits, lt, neg}
use Rattle.definition.specs.Floats.{◌⊘◌, ◌≺◌, ◌≼◌, f64, finite, greater, 0·0, 1·0}
use Rattle.definition.specs.Lists.{any}
use Rattle.definition.specs.Numbers.{Quality, tiny_cross}
use Rattle.definition.specs.Plane.{Node, twice_area}
use Rattle.definition.specs.Metrics.{Metrics, absent, measured, Corner, corner_of, corners, not_convex, angle_of, clamp, cosine, largest_cosine, min_scaled_jacobian, quad_metrics, passes}
use Rattle.definition.specs.Exact.{TurnsLeft, CosineAtMost}
use Rattle.definition.specs.Account.{All}
use Rattle.laws.specs.Bools.{both, or_none}
use Rattle.exact.specs.Near.{Whole}
use Rattle.exact.specs.Parts.{billion}
use Rattle.exact.specs.Values.{whole, Ok}
use Rattle.exact.specs.Order.{◌⊏◌, ◌⊑◌}
use Rattle.exact.specs.Points.{At}

-- a cosine that a test may allow: a double from 0 on, below 1
abbrev pub BelowOne : Float → Type 0
BelowOne t = Ok binary64 t × ((whole binary64 t).1 ≡ 0) × ((whole binary64 t).0 < 2 ^ 1074)

-- what passing says of the quad's metrics
pub record Passed (y : Quality) (a b c d : Node) : Type 0 where
  pub convex : any not_convex (corners a b c d) ≡ false
  pub cosine : (y.largest_cosine ≺ largest_cosine (map angle_of (corners a b c d))) ≡ false
  pub jacobian : (min_scaled_jacobian a b c d ≺ y.least_jacobian) ≡ false

-- ---- the four corners
-- the corner's cosine is at most the double t plus 1e-9
abbrev pub CosineNear : Float → Corner → Type 0
CosineNear t k = CosineAtMost (billion * (whole binary64 t).0 + 2 ^ 1074) (billion * 2 ^ 1074) k
