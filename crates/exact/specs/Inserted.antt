-- The point that the definition tries for an insertion is within 40, and where a triangle holds it, within 8.
-- Assumes nothing.
use Rattle.std.specs.Prelude.{◌≡◌, ◌&&◌, ◌||◌, ◌+◌, ◌*◌, ◌^◌, ◌<◌, ◌≤◌, ◌∷◌}
use Rattle.laws.specs.Kit.{refl, sym, ap, subst, inl, inr, Bool, true, false, cond, ℕ, arith, le_of_mul-le-mul_right, eqb, lit≤, T, List, Float, binary64, nan, fin, inf, down, up, of_bits, eq, lt, le, neg, mul}
use Rattle.std.proofs.Common.{le_trans, eqb→eq}
use Rattle.std.specs.Float.Ieee.Fits.{and_l, and_r, down_pos, neg-fits}
use Rattle.definition.specs.Floats.{◌≺◌, ◌≼◌, f64, 0·0, 1/64, 8·0, 1e-12, 0·3, 0·4, 0·5, 0·6, 0·7, 0·8, 0·9, 1·0}
use Rattle.definition.specs.Floats as floats
use Rattle.definition.specs.Numbers.{Settings, insert_shares, tiny_length}
use Rattle.definition.specs.Plane.{Node, Vec, flat, from_to}
use Rattle.definition.specs.Plane as plane
use Rattle.definition.specs.Insertion.{along}
use Rattle.definition.specs.Attempt.{target_of, inward_normal}
use Rattle.definition.specs.Account.{All, ◌∈◌}
use Rattle.definition.specs.Call.{Asked, bad_size, least_size, most_size}
use Rattle.laws.specs.Bools.{TOr}
use Rattle.exact.specs.Near.{Whole, Near, abs, ◌⊖◌, ◌⊙◌}
use Rattle.exact.specs.Values.{whole, sign, signed, mag, Ok}
use Rattle.exact.specs.Sums.{Number}
use Rattle.exact.specs.Order.{◌⊏◌}
use Rattle.exact.specs.Dot.{dot}
use Rattle.exact.specs.Corner.{norm}
use Rattle.exact.specs.Units.{wx, wy}
use Rattle.exact.specs.Points.{At, tiny_units}
use Rattle.exact.specs.Strict.{Doubles}

-- ---- sizes and shares
-- a number of magnitude at most k
abbrev pub Size : ℕ → Float → Type 0
Size k x = Number x × (mag binary64 x ≤ k * 2 ^ 1074)
