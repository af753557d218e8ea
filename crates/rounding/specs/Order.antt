-- The order of doubles: that of signed fractions, with an infinity at each end and a NaN nowhere.
-- `round` keeps it, whatever the signs.
-- Assumes nothing.
use Rattle.std.specs.Prelude.{◌≡◌, ◌⊎◌, ◌||◌, ◌+◌, ◌-◌, ◌*◌, ◌/◌, ◌^◌, ◌<◌, ◌≤◌}
use Rattle.laws.specs.Kit.{refl, sym, ◌∙◌, ap, subst, inl, inr, Bool, true, false, not, cond, ℕ, zero, suc, arith, dec_lt, mul-le-mul_right, le_of_mul-le-mul_right, eqb, ltb, T, ℤ, Float, binary64, nan, fin, inf, down, up, round, lt, le, neg}
use Rattle.std.specs.Bool.{beq}
use Rattle.std.proofs.Common.{zero-mul, zero-lt-suc, ltb→lt, lt→ltb, eqb→eq}
use Rattle.std.specs.Float.{Format}
use Rattle.std.specs.Float.Ieee.{prec, emax, low, size, odd, units, below, level, is_nan}
use Rattle.std.specs.Float.Ieee.Fits.{down_pos, and_l, and_r, and_i, eq→eqb, round_is}
use Rattle.std.specs.Float.Ieee.Nearest.{closest}
use Rattle.std.specs.Float.Ieee.Order.{drop, kept, round_mono}
use Rattle.laws.specs.Bools.{TOr, TLeft, TRight}

-- ---- a signed number, ±a, as the difference of two
-- what is added
abbrev pub plus : Bool → ℕ → ℕ
plus false a = a
plus true a = 0

-- what is taken off
abbrev pub less : Bool → ℕ → ℕ
less false a = 0
less true a = a

-- ±a ≤ ±b
abbrev pub AtMost : Bool → ℕ → Bool → ℕ → Type 0
AtMost s a t b = plus s a + less t b ≤ plus t b + less s a

-- ±a < ±b
abbrev pub Under : Bool → ℕ → Bool → ℕ → Type 0
Under s a t b = plus s a + less t b < plus t b + less s a
