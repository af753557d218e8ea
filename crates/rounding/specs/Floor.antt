-- `floor x` by its bits. A double is a / 2 ^ 1074, for a whole number a. Assumes nothing.
use Rattle.std.specs.Prelude.{◌≡◌, ◌⊎◌, ◌+◌, ◌-◌, ◌*◌, ◌/◌, ◌^◌, ◌<◌, ◌≤◌}
use Rattle.laws.specs.Kit.{refl, sym, ◌∙◌, ap, subst, inl, inr, Bool, true, false, cond, ℕ, arith, mul-pos, mul-le-mul_right, mul-lt-mul_of_pos_right, le_of_mul-le-mul_right, T, pow_pos, pow-add, pow_mono, ℤ, Float, binary64, nan, fin, inf, down, up, of_bits, fits, round}
use Rattle.std.proofs.Common.{zero-le, le_refl, le_trans, le_of_eq, lt_of_lt_of_le, lt_of_le_of_lt, eq-or-lt_of_le, zero-lt-suc, add-zero, add-mul, mul-one, one-mul, mul_comm, mul_assoc, mul_right_comm, lt_of_mul-lt-mul_right, div-mul-le_self, div-lt_iff_lt-mul, le-div_iff_mul-le}
use Rattle.std.proofs.Math.Nat.{eq_of_mul-eq-mul_right}
use Rattle.std.specs.Float.Ieee.Fits.{down_pos, round-fits}
use Rattle.std.specs.Float.Ieee.Bits.{of_bits-fits}
use Rattle.std.specs.Float.Ieee.Exact.{HasValue, round_exact}
use Rattle.std.specs.Float.Ieee.Back.{whole_unique}
use Rattle.definition.specs.Root.{floor}
use Rattle.rounding.specs.Parts.{Significand}
use Rattle.rounding.specs.Fields.{signed}

-- c is a / 2 ^ 1074, cut down for a number that is not negative, and up for one that is
abbrev pub Between : Bool → ℕ → ℕ → Type 0
Between false a c = (c * 2 ^ 1074 ≤ a) × (a < (c + 1) * 2 ^ 1074)
Between true a c = (a ≤ c * 2 ^ 1074) × (c * 2 ^ 1074 < a + 2 ^ 1074)
