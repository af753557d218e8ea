-- The test of the grid as a program makes it, with f64 operations: 1024 times the coordinate is its own floor.
-- For a double within 8 it is the definition's test.
-- Assumes nothing.
use Rattle.std.specs.Prelude.{◌≡◌, ◌&&◌, ◌||◌, ◌+◌, ◌-◌, ◌*◌, ◌/◌, ◌%◌, ◌^◌, ◌<◌, ◌≤◌}
use Rattle.laws.specs.Kit.{sym, ◌∙◌, ap, subst, Bool, true, false, cond, ℕ, zero, suc, arith, mul-le-mul_right, le_of_mul-le-mul_right, eqb, ltb, leb, lit<, lit≤, T, pow_pos, pow-add, ℤ, pos, negsuc, Float, binary64, nan, fin, inf, down, up, of_bits, fits, round, eq, mul}
use Rattle.std.specs.Bool.{beq}
use Rattle.std.proofs.Common.{mul_assoc, mul-one, lt_of_mul-lt-mul_right, mod-lt, div-add-mod', le_of_suc-le-suc, lt_of_not-le, not-le_of_lt, eqb→eq, ltb→lt}
use Rattle.std.proofs.Math.Nat.{eq_of_mul-eq-mul_right, mul-mod_left}
use Rattle.std.proofs.Math.Pow.{pow-lt}
use Rattle.std.specs.Float.{Format}
use Rattle.std.specs.Float.Ieee.{prec, emax, low, unlike}
use Rattle.std.specs.Float.Ieee.Digits.{back}
use Rattle.std.specs.Float.Ieee.Fits.{down_pos, and_l, and_r, and_i, eq→eqb}
use Rattle.std.specs.Float.Ieee.Exact.{HasValue, round_exact}
use Rattle.std.specs.Float.Ieee.Scale.{overflow}
use Rattle.definition.specs.Floats.{◌⊗◌, on_grid, f64}
use Rattle.definition.specs.Root.{floor}
use Rattle.laws.specs.Bools.{to_T, of_T, same_bool}
use Rattle.exact.specs.Near.{Within}
use Rattle.exact.specs.Values.{whole, signed, mag, Ok}

-- the double 1024
unfoldable pub 1024·0 : Float
1024·0 = f64 0x4090000000000000

-- 1024 times x is its own floor
unfoldable pub is_whole_part : Float → Bool
is_whole_part x = let y = x ⊗ 1024·0 in eq (floor y) y
