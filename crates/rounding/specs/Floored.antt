-- `floor x` is the largest whole number that is at most x, for a finite x. Assumes nothing.
use Rattle.std.specs.Prelude.{◌≡◌, ◌&&◌, ◌+◌, ◌-◌, ◌*◌, ◌/◌, ◌%◌, ◌^◌, ◌<◌, ◌≤◌}
use Rattle.laws.specs.Kit.{refl, sym, ◌∙◌, ap, subst, Bool, true, false, cond, ℕ, zero, suc, arith, mul-le-mul_left, mul-lt-mul_of_pos_right, eqb, ltb, leb, T, pow_pos, pow-add, ℤ, pos, negsuc, Float, binary64, fin, down, up, fits, round}
use Rattle.std.proofs.Common.{le_of_eq, lt_of_le_of_lt, zero-lt-suc, add-zero, add-mul, mul-one, mul_assoc, zero-mul, div-one, div-mul-le_self, div-lt_iff_lt-mul, ltb→lt}
use Rattle.std.specs.Float.Ieee.Fits.{down_pos, and_l, and_r}
use Rattle.std.specs.Float.Ieee.Exact.{HasValue, round_exact}
use Rattle.std.specs.Float.Ieee.Back.{round_whole}
use Rattle.definition.specs.Root.{floor}

-- what is added to the size before it is cut
abbrev pub slack : Bool → ℕ → ℕ
slack s d = cond s (d - 1) 0

-- c is n / d, cut down, or up for a negative number
abbrev pub Whole : Bool → ℕ → ℕ → ℕ → Type 0
Whole false n d c = (c * d ≤ n) × (n < (c + 1) * d)
Whole true n d c = (n ≤ c * d) × (c * d < n + d)
