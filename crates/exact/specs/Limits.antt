-- Limits on a cosine: a double from 0 on, below 1, and its exact value in units. Assumes nothing.
use Rattle.laws.specs.Kit.{refl, sym, subst, inl, inr, true, false, ℕ, arith, lit<, lit≤, T, ℤ, pos, negsuc, Float, binary64, nan, fin, inf, of_bits, fits, eq, lt, le}
use Rattle.std.specs.Prelude.{nat_abs, ◌≡◌, ◌⊎◌, ◌+◌, ◌*◌, ◌^◌, ◌<◌}
use Rattle.definition.specs.Floats.{◌≺◌, ◌≼◌, f64, 0·0, 0·5, 0·99, 1·0, 0·90630778703665}
use Rattle.definition.specs.Metrics.{Corner}
use Rattle.definition.specs.Exact.{signed, units, CosineAtMost, CosineUpTo, WideEnough}
use Rattle.laws.specs.Bools.{of_T, to_T}
use Rattle.exact.specs.Near.{Whole, Near}
use Rattle.exact.specs.Parts.{billion}
use Rattle.exact.specs.Values.{whole, Ok}
use Rattle.exact.specs.Order.{◌⊏◌, ◌⊑◌}
use Rattle.exact.specs.Units.{ofℤ}
use Rattle.exact.specs.Passing.{BelowOne, CosineNear}

-- the limit of a test on cosines: a double from 0 on, below 1
pub record Limit (t : Float) : Type 0 where
  pub double : fits binary64 t ≡ true
  pub from_zero : (0·0 ≼ t) ≡ true
  pub below_one : (t ≺ 1·0) ≡ true
