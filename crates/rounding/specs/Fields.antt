-- The value that a double's bit pattern stands for, and the pattern of a value,
-- for finite doubles that are not negative.
-- Assumes nothing.
use Rattle.std.specs.Prelude.{◌≡◌, ◌&&◌, ◌+◌, ◌-◌, ◌*◌, ◌/◌, ◌%◌, ◌^◌, ◌<◌, ◌≤◌}
use Rattle.laws.specs.Kit.{refl, sym, ◌∙◌, ap, subst, Bool, true, false, cond, true≢false, ℕ, zero, suc, arith, dec_lt, mul-le-mul_right, mul-lt-mul_of_pos_right, eqb, ltb, leb, T, le-leb, pow_pos, pow-add, pow_mono, ℤ, Float, binary64, nan, fin, inf, down, up, of_bits, to_bits, fits}
use Rattle.std.proofs.Common.{zero-add, add_assoc, zero-mul, mul-div_cancel, mod-eq_of_lt, le_trans, le_of_eq, lt_of_lt_of_le, mul_right_comm, div-lt_iff_lt-mul, eqb→eq, ltb→lt}
use Rattle.std.proofs.Math.Nat.{zero-div}
use Rattle.std.proofs.Math.Dec.{not_T}
use Rattle.std.proofs.Math.Arith.{lt→nleb}
use Rattle.std.specs.Float.Ieee.{size, odd, units, of_fields}
use Rattle.std.specs.Float.Ieee.Digits.{size-le}
use Rattle.std.specs.Float.Ieee.Fits.{down_pos, kept-lt, and_r}
use Rattle.std.specs.Float.Ieee.Bits.{is_false, cond_no, of_bits-to_bits}
use Rattle.std.specs.Float.Ieee.Exact.{HasValue, odd_sign, units_val}
use Rattle.rounding.specs.Parts.{Significand}

-- ---- the bits of a value that is a / 2 ^ 1074
abbrev pub layout : ℕ → ℕ
layout a = (size a - 53) * 2 ^ 52 + a / 2 ^ (size a - 53)

-- the weight of the sign
abbrev pub signed : Bool → ℕ → ℕ
signed s a = cond s (2 ^ 63) 0 + a
