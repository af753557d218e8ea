-- The definition's float tests on points: within 8, and the cross product above or below the tolerance.
use Rattle.std.specs.Prelude.{◌≡◌, ◌&&◌, ◌||◌, ◌+◌, ◌*◌, ◌^◌, ◌<◌, ◌≤◌}
use Rattle.laws.specs.Kit.{refl, inl, inr, Bool, true, false, not, ℕ, arith, mul-le-mul_right, mul-lt-mul_of_pos_right, le_of_mul-le-mul_right, eqb, lit≤, T, pow_pos, Float, binary64, nan, fin, inf, down, up, of_bits, fits, eq, lt, le, neg}
use Rattle.std.proofs.Common.{ltb→lt, eqb→eq}
use Rattle.std.specs.Float.Ieee.{below, level}
use Rattle.std.specs.Float.Ieee.Fits.{and_l, and_r, down_pos}
use Rattle.definition.specs.Floats.{◌⊖◌, ◌⊗◌, ◌≼◌, f64, 0·0, 8·0, 1e-12}
use Rattle.definition.specs.Floats as floats
use Rattle.definition.specs.Plane.{Node}
use Rattle.definition.specs.Plane as plane
use Rattle.definition.specs.Call.{outside, most_coordinate}
use Rattle.laws.specs.Bools.{TOr}
use Rattle.exact.specs.Near.{Whole, Near, Within}
use Rattle.exact.specs.Values.{whole, mag, Ok}
use Rattle.exact.proofs.Values.{signed_within}
use Rattle.exact.proofs.Sums.{mag_cut}
use Rattle.exact.specs.Order.{◌⊏◌}
use Rattle.exact.proofs.Order.{is_not}
use Rattle.exact.specs.Room.{Coord}
use Rattle.exact.proofs.Room.{room64}
use Rattle.exact.specs.Cross.{cross, crossW}
use Rattle.exact.proofs.Cross.{cross_near}
use Rattle.exact.specs.Units.{W}
use Rattle.exact.specs.Points.{At, exactly, tiny_units}

coord_further : (x : Float) (j k : ℕ) → j ≤ k → Coord binary64 j x → Coord binary64 k x
coord_further x j k h c = (c.0, go (whole binary64 x) (2 ^ 1074) c.1)
  where
    go : (z : Whole) (L : ℕ) → Within z (j * L) → Within z (k * L)
    go z L w = omega (arith, mul-le-mul_right L h)

pub further : (p : Node) (j k : ℕ) → j ≤ k → At j p → At k p
further p j k h a = (coord_further p.x j k h a.0, coord_further p.y j k h a.1)

-- ---- within 8
pub le_numbers : (a b : ℕ) → T (below false a false b || level false a false b) → a ≤ b
le_numbers a b t = elim (TOr (below false a false b) (level false a false b) t) [
  | inl l ↦ let h = ltb→lt a b l in omega arith
  | inr l ↦ let h = eqb→eq a b (and_l (eqb a b) (true || eqb a 0) l) in omega arith
]

pub cut_small : (a d X L : ℕ) → 0 < d → a * 1 ≤ 8 * d → X * d ≤ a * L → X ≤ 8 * L
cut_small a d X L P h k = le_of_mul-le-mul_right (omega (arith, mul-le-mul_right L h)) P

pub coord_of : (x : Float) → T (floats.abs x ≼ most_coordinate) → Coord binary64 8 x
unfolding floats.abs ◌≼◌ le lt eq most_coordinate 8·0 f64 of_bits whole
coord_of nan t = absurd t
coord_of (inf s) t = absurd t
coord_of (fin s m e) t = (tt, signed_within s (mag binary64 (fin s m e)) (8 * 2 ^ 1074) (cut_small (m * up e) (down e) (mag binary64 (fin s m e)) (2 ^ 1074) (down_pos e) (le_numbers (m * up e * 1) (8 * down e) t) (mag_cut binary64 (fin s m e)).0))

pub not-false : (b : Bool) → not b ≡ false → T b
not-false true e = tt
not-false false e = absurd (is_not e tt)

pub within_8 : (p : Node) → outside p ≡ false → At 8 p
unfolding outside
within_8 p e =
    let t = not-false (floats.abs p.x ≼ most_coordinate && floats.abs p.y ≼ most_coordinate) e in
    (coord_of p.x (and_l (floats.abs p.x ≼ most_coordinate) (floats.abs p.y ≼ most_coordinate) t), coord_of p.y (and_r (floats.abs p.x ≼ most_coordinate) (floats.abs p.y ≼ most_coordinate) t))

pub zero_ok : Ok binary64 0·0
unfolding 0·0 f64 of_bits fits
zero_ok = tt

pub zero_is : whole binary64 0·0 ≡ (0, 0)
unfolding 0·0 f64 of_bits whole
zero_is = refl

pub cross_ok : (a b c : Node) → At 8 a → At 8 b → At 40 c → Ok binary64 (plane.cross a b c) × Near ((whole binary64 (plane.cross a b c)).0 * 2 ^ 1074, (whole binary64 (plane.cross a b c)).1 * 2 ^ 1074) (exactly a b c) (6600 * (2 ^ 1021 * 2 ^ 1074))
unfolding plane.cross cross ◌⊖◌ ◌⊗◌
cross_ok a b c h k l = cross_near binary64 (2 ^ 1021) room64 a.x a.y b.x b.y c.x c.y h.0 h.1 k.0 k.1 l.0 l.1

pub tiny_ok : Ok binary64 1e-12
unfolding 1e-12 f64 of_bits fits
tiny_ok = tt

pub tiny_is : whole binary64 1e-12 ≡ (tiny_units, 0)
unfolding 1e-12 f64 of_bits whole
tiny_is = refl

pub minus_ok : Ok binary64 (neg 1e-12)
unfolding 1e-12 f64 of_bits fits neg
minus_ok = tt

pub minus_is : whole binary64 (neg 1e-12) ≡ (0, tiny_units)
unfolding 1e-12 f64 of_bits whole neg
minus_is = refl

above : (L q t : ℕ) (r C : Whole) → 0 < L → 6601 * q ≤ t → t + r.1 < r.0 + 0 → Near (r.0 * L, r.1 * L) C (6600 * (q * L)) → C.1 + q * L < C.0
above L q t r C P h k n = omega (arith, mul-le-mul_right L h, mul-lt-mul_of_pos_right k P)

under : (L q t : ℕ) (r C : Whole) → 0 < L → 6601 * q ≤ t → r.0 + t < 0 + r.1 → Near (r.0 * L, r.1 * L) C (6600 * (q * L)) → C.0 + q * L < C.1
under L q t r C P h k n = omega (arith, mul-le-mul_right L h, mul-lt-mul_of_pos_right k P)

-- by how much: 2 ^ 1021 * 2 ^ 1074 units of 2 ^ -2148 are 2 ^ -53
module _ (a b c : Node) (h : At 8 a) (k : At 8 b) (l : At 40 c) where
  pub cross_above : whole binary64 1e-12 ⊏ whole binary64 (plane.cross a b c) → (exactly a b c).1 + 2 ^ 1021 * 2 ^ 1074 < (exactly a b c).0
  cross_above t = above (2 ^ 1074) (2 ^ 1021) tiny_units (whole binary64 (plane.cross a b c)) (exactly a b c) (pow_pos 1074) (lit≤ tt) (rw tiny_is at t) (cross_ok a b c h k l).1

  pub cross_below : whole binary64 (plane.cross a b c) ⊏ whole binary64 (neg 1e-12) → (exactly a b c).0 + 2 ^ 1021 * 2 ^ 1074 < (exactly a b c).1
  cross_below t = under (2 ^ 1074) (2 ^ 1021) tiny_units (whole binary64 (plane.cross a b c)) (exactly a b c) (pow_pos 1074) (lit≤ tt) (rw minus_is at t) (cross_ok a b c h k l).1
