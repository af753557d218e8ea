-- `sqrt x` for an x that is finite and above zero, from the whole root of its significand: its value and its bits.
-- Assumes nothing.
use Rattle.std.specs.Prelude.{◌≡◌, ◌+◌, ◌-◌, ◌*◌, ◌/◌, ◌%◌, ◌^◌, ◌<◌, ◌≤◌}
use Rattle.laws.specs.Kit.{refl, sym, ◌∙◌, ap, subst, true, false, true≢false, ℕ, zero, suc, arith, mul-pos, mul-le-mul, mul-le-mul_left, mul-le-mul_right, mul-lt-mul_of_pos_right, le_of_mul-le-mul_right, ltb, lit≤, pow_pos, pow-add, pow_mono, ℤ, pos, negsuc, Float, binary64, nan, fin, inf, down, up, of_bits, to_bits, round}
use Rattle.std.proofs.Common.{mul_assoc, mul_right_comm, mul_comm, le-mul_of_pos_right, mul-one, div-one, mul-div_cancel, le_trans, le_of_eq, lt_of_le_of_lt, lt_of_lt_of_le, lt_of_not-le, not-le_of_lt, zero-lt-suc, zero-mul}
use Rattle.std.proofs.Math.Nat.{mul-mul-mul_comm, eq_of_mul-eq-mul_right}
use Rattle.std.specs.Float.Ieee.{size, units}
use Rattle.std.specs.Float.Ieee.Fits.{down_pos, up_pos}
use Rattle.std.specs.Float.Ieee.Exact.{HasValue}
use Rattle.definition.specs.Root.{isqrt, scale, sqrt}
use Rattle.laws.specs.Isqrt.{IsRoot, lt_of_squares, four_pow, isqrt_levels, scaled_root}
use Rattle.laws.specs.Bools.{at_most_one}
use Rattle.rounding.specs.Rounded.{left_over}
use Rattle.rounding.specs.Parts.{Significand, Leading, Evened}

-- ---- the words of `sqrt`
-- the number m * 2 ^ e, times 4 ^ h
abbrev pub scaled : ℕ → ℤ → ℕ
scaled m e = m * up e * 4 ^ scale e / down e

-- twice the whole root of n, and 1 more where something is left over
abbrev pub doubled : ℕ → ℕ
doubled n = 2 * isqrt (size n / 2 + 1) n + left_over n (isqrt (size n / 2 + 1) n)
