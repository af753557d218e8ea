-- `sqrt x` is within half a unit of the root of x, and every other double is further away,
-- for an x that is finite and above zero.
-- Assumes nothing.
use Rattle.std.specs.Prelude.{◌≡◌, ◌⊎◌, ◌+◌, ◌-◌, ◌*◌, ◌/◌, ◌%◌, ◌^◌, ◌<◌, ◌≤◌}
use Rattle.laws.specs.Kit.{refl, sym, ◌∙◌, ap, subst, inl, inr, Bool, false, ℕ, zero, suc, arith, dec_le, mul-pos, mul-le-mul, mul-le-mul_right, mul-lt-mul_of_pos_right, T, pow_pos, pow-add, pow_mono, ℤ, Float, binary64, nan, fin, inf, down, up, to_bits, fits}
use Rattle.std.proofs.Common.{subst₂, le_trans, le_of_eq, lt_of_lt_of_le, lt_of_le_of_lt, mul_assoc, mul_comm, lt_of_mul-lt-mul_right, mul-div_cancel, add-mul, zero-mul, lt_of_not-le}
use Rattle.std.proofs.Math.Nat.{mul-mul-mul_comm, zero-div}
use Rattle.std.proofs.Math.Arith.{lt_of_le-ne}
use Rattle.std.specs.Int.Count.{count_leading_zeros}
use Rattle.std.specs.Float.Ieee.{units}
use Rattle.std.specs.Float.Ieee.Fits.{down_pos}
use Rattle.std.specs.Float.Ieee.Bits.{of_bits-to_bits}
use Rattle.std.specs.Float.Ieee.Exact.{HasValue, units_val}
use Rattle.definition.specs.Root.{isqrt, sqrt}
use Rattle.laws.specs.Isqrt.{IsRoot, sq_lt, isqrt_root}
use Rattle.rounding.specs.Nearest.{ulps, Nearer, HalfUnit}
use Rattle.rounding.specs.Parts.{Leading, Evened}

pub record Parts (x : Float) : Type 0 where
  pub a : ℕ
  pub R : ℕ
  pub s : ℕ
  pub h : ℕ
  pub a_pos : 0 < a
  pub value : HasValue x false a (2 ^ 1074)
  pub lo : 2 ^ 52 ≤ R
  pub hi : R ≤ 2 ^ 54 - 2
  pub H : h ≤ 1048
  pub root : IsRoot (R * 2 ^ 54) s
  pub scaled : a * 2 ^ 52 ≡ R * (2 ^ h * 2 ^ h)

-- ---- the root, in units
pub record Within (x r : Float) : Type 0 where
  pub half : HalfUnit x r
  pub at_edge : half.q ≡ 2 ^ 52 → 2 * half.q * 2 ^ half.k * (2 * half.q * 2 ^ half.k) ≤ 4 * ulps x * 2 ^ 1074
