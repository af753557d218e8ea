-- The bucket key of a coordinate c is `floor (c ⊘ b)`.
-- It grows with its coordinate, so two ranges of keys on two sides of a key do not meet.
-- The laws hold for all doubles that their hypotheses allow: infinities, zeros of either sign,
-- quotients that overflow or underflow.
-- Assumes nothing.
use Rattle.std.specs.Prelude.{◌≡◌, ◌&&◌, ◌+◌, ◌-◌, ◌*◌, ◌/◌, ◌<◌, ◌≤◌}
use Rattle.laws.specs.Kit.{refl, sym, ◌∙◌, ap, inl, inr, Bool, true, false, cond, true≢false, ℕ, zero, suc, arith, mul-pos, mul-le-mul_right, le_of_mul-le-mul_right, eqb, T, ℤ, pos, Float, binary64, nan, fin, inf, down, up, of_bits, round, lt, le, div}
use Rattle.std.proofs.Common.{zero-lt-suc, mul-one, div-lt_iff_lt-mul, ltb→lt, eqb→eq}
use Rattle.std.specs.Float.Ieee.{unlike}
use Rattle.std.specs.Float.Ieee.Fits.{up_pos, down_pos}
use Rattle.std.specs.Float.Ieee.Nearest.{div_mono}
use Rattle.definition.specs.Floats.{◌⊘◌, ◌≺◌, ◌≼◌, lesser, greater, finite, f64, 0·0}
use Rattle.definition.specs.Root.{floor}
use Rattle.definition.specs.Flips.{ranges_meet}
use Rattle.laws.specs.Bools.{of_T, to_T, refuted}
use Rattle.rounding.specs.Order.{AtMost}

-- ---- `floor` keeps the order
-- n / d cut down, or up for a negative number
abbrev pub cut : Bool → ℕ → ℕ → ℕ
cut s n d = (n + cond s (d - 1) 0) / d
