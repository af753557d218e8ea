-- The square root keeps the order of doubles: a root is beyond a number where that of a smaller double is,
-- and is not where that of a greater one is not.
use Rattle.std.specs.Prelude.{◌≡◌, ◌+◌, ◌*◌, ◌^◌, ◌<◌, ◌≤◌}
use Rattle.laws.specs.Kit.{refl, sym, ◌∙◌, ap, subst, Bool, true, false, cond, true≢false, false≢true, ℕ, zero, suc, arith, dec_le, mul-pos, mul-le-mul_right, mul-lt-mul_of_pos_right, le_of_mul-le-mul_right, ltb, T, lt-ltb, ltb-true, pow_pos, ℤ, Float, binary64, nan, fin, inf, down, up, fits, round, lt}
use Rattle.std.proofs.Common.{lt_of_mul-lt-mul_right, le_of_lt, lt_of_not-le, zero-mul, lt_irrefl}
use Rattle.std.specs.Float.Ieee.{units, odd, low, emax, prec}
use Rattle.std.specs.Float.Ieee.Fits.{down_pos, round_is, round-fits}
use Rattle.std.specs.Float.Ieee.Exact.{HasValue, odd_sign}
use Rattle.definition.specs.Floats.{◌≺◌}
use Rattle.definition.specs.Root.{sqrt}
use Rattle.rounding.specs.Nearest.{ulps, Nearer}
use Rattle.rounding.specs.Root.{doubled, scaled}

-- ---- roots are doubles without a sign
abbrev pub Unsigned : Float → Type 0
Unsigned nan = Unit {0}
Unsigned (inf s) = Unit {0}
Unsigned (fin true m e) = ⊥
Unsigned (fin false m e) = Unit {0}

-- the root of a double above zero
pub record Rooted (x : Float) : Type 0 where
  pub n : ℕ
  pub d : ℤ
  pub is : sqrt x ≡ fin false n d
  pub fit : T (fits binary64 (fin false n d))
