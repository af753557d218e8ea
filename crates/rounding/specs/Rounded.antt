-- How `round` rounds twice the whole root of a scaled radicand, with 1 more where something is left over:
-- as the shorter root rounds by its last digit.
-- Assumes nothing.
use Rattle.std.specs.Prelude.{◌≡◌, ◌⊎◌, ◌+◌, ◌-◌, ◌*◌, ◌/◌, ◌%◌, ◌^◌, ◌<◌, ◌≤◌}
use Rattle.laws.specs.Kit.{refl, sym, ◌∙◌, ap, subst, inl, inr, Bool, true, false, not, cond, ℕ, zero, suc, arith, mul-pos, mul-le-mul_right, mul-lt-mul_of_pos_right, ltb, T, pow_pos, pow-add, pow_mono, binary64, round}
use Prim.Native.Nat.{compare, Ordering}
use Rattle.std.proofs.Common.{le_antisymm, lt_of_lt_of_le, lt_of_not-le, not-le_of_lt, mul_assoc, zero-lt-suc, div-lt_iff_lt-mul, le-div_iff_mul-le, nltb→le}
use Rattle.std.proofs.Math.Nat.{mul-mul-mul_comm, eq_of_mul-eq-mul_right}
use Rattle.std.proofs.Math.Arith.{digits_div, digits_mod}
use Rattle.std.specs.Float.Ieee.{size, nearest, units}
use Rattle.std.specs.Float.Ieee.Digits.{size-lt, size-le}
use Rattle.std.specs.Float.Ieee.Fits.{round_is}
use Rattle.std.specs.Float.Ieee.Nearest.{closest, closest_same}
use Rattle.laws.specs.Isqrt.{IsRoot, scaled_root}
use Rattle.laws.specs.Numbers.{Cmp, cmp}
use Rattle.laws.specs.Bools.{at_most_one}

abbrev pub left_over : ℕ → ℕ → ℕ
left_over n r = cond (ltb (r * r) n) 1 0
