-- A vector that is doubled is twice as long, in floats too: where nothing underflows and nothing overflows,
-- each square, the sum and the root are scaled and rounded alike.
-- Assumes nothing.
use Rattle.std.specs.Prelude.{◌≡◌, ◌⊎◌, ◌+◌, ◌-◌, ◌*◌, ◌/◌, ◌%◌, ◌^◌, ◌<◌, ◌≤◌}
use Rattle.laws.specs.Kit.{refl, sym, ◌∙◌, ap, subst, inl, inr, Bool, true, false, true≢false, ℕ, zero, suc, arith, mul-pos, mul-le-mul, mul-le-mul_right, mul-lt-mul_of_pos_right, lit<, lit≤, T, pow_pos, pow-add, pow_mono, ℤ, Float, binary64, nan, fin, inf, down, up, of_bits, fits, round, add, mul}
use Prim.Native.Nat.{compare}
use Rattle.std.proofs.Common.{le_trans, le_of_eq, lt_of_lt_of_le, lt_of_le_of_lt, lt_of_not-le, not-le_of_lt, zero-lt-suc, zero-mul, mul_assoc, le-mul_of_pos_right, le-div_iff_mul-le, div-lt_iff_lt-mul}
use Rattle.std.proofs.Math.Nat.{mul-mul-mul_comm, eq_of_mul-eq-mul_right, div-div-eq-div-mul}
use Rattle.std.specs.Float.Ieee.{unlike, size, units}
use Rattle.std.specs.Float.Ieee.Digits.{size-lt, size-le, size_reaches}
use Rattle.std.specs.Float.Ieee.Fits.{down_pos, kept-lt, nearest-le, round-fits, add-fits, mul-fits}
use Rattle.std.specs.Float.Ieee.Exact.{HasValue, units_val, round_exact}
use Rattle.std.specs.Float.Ieee.Nearest.{nearest-ge}
use Rattle.std.specs.Float.Ieee.Order.{drop, kept}
use Rattle.std.specs.Float.Ieee.Scale.{round_same, grid, round_val, grid_scale, normal_of_fraction}
use Rattle.std.specs.Float.Ieee.Positive.{positive_of_value, mul_at}
use Rattle.definition.specs.Floats.{◌⊕◌, ◌⊗◌, f64, 0·0, 0·5}
use Rattle.definition.specs.Root.{sqrt}

-- ---- two doubles, the second four times the first: both zero, or the first neither subnormal nor above 2 ^ j units
pub record Four (j : ℕ) (v w : Float) : Type 0 where
  pub g : ℕ
  pub once : HasValue v false g (2 ^ 1074)
  pub fourfold : HasValue w false (g * 4) (2 ^ 1074)
  pub sized : (g ≡ 0) ⊎ ((2 ^ 52 ≤ g) × (g ≤ 2 ^ j))

-- ---- a number that may be doubled and squared: it is n * 2 ^ d units, zero or from 2 ^ 563 to 2 ^ 1573 of them
pub record Middling (x : Float) : Type 0 where
  pub s : Bool
  pub n : ℕ
  pub d : ℕ
  pub digits : n < 2 ^ 53
  pub value : HasValue x s (n * 2 ^ d) (2 ^ 1074)
  pub sized : (n * 2 ^ d ≡ 0) ⊎ ((2 ^ 563 ≤ n * 2 ^ d) × (n * 2 ^ d ≤ 2 ^ 1573))
