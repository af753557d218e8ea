-- A vector's length from the length of its double, where tests of floats show that nothing
-- underflows and nothing overflows.
-- Assumes nothing.
use Rattle.std.specs.Prelude.{◌≡◌, ◌||◌, ◌*◌, ◌^◌, ◌≤◌}
use Rattle.laws.specs.Kit.{refl, sym, ◌∙◌, ap, inl, inr, Bool, true, false, ℕ, zero, suc, arith, mul-pos, le_of_mul-le-mul_right, eqb, lit≤, T, pow_pos, ℤ, Float, binary64, nan, fin, inf, down, up, of_bits, fits, round, eq, mul}
use Rattle.std.proofs.Common.{le_trans, zero-mul, eqb→eq}
use Rattle.std.proofs.Math.Nat.{mul-mul-mul_comm}
use Rattle.std.specs.Bool.{beq}
use Rattle.std.specs.Float.Ieee.Fits.{down_pos, and_l}
use Rattle.std.specs.Float.Ieee.Positive.{positive, between, own_value, values_of_le, num, den}
use Rattle.std.specs.Float.Ieee.Scale.{round_same}
use Rattle.definition.specs.Floats.{◌⊕◌, ◌⊗◌, ◌≼◌, abs, f64, 0·0, 0·5}
use Rattle.definition.specs.Root.{sqrt}
use Rattle.laws.specs.Bools.{to_T}
use Rattle.rounding.specs.Fourfold.{Middling}

-- ---- numbers that may be doubled and squared
-- 1e-150 and 1e150
unfoldable pub smallest : Float
smallest = f64 0x20ca2fe76a3f9475

unfoldable pub largest : Float
largest = f64 0x5f138d352e5096af

-- x is half of u: x + x is u, and nothing is lost in the squares
pub record HalfOf (x u : Float) : Type 0 where
  pub middling : Middling x
  pub twice : T (eq (x ⊕ x) u)
