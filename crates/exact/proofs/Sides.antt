-- On the grid of 1 / 1024 a float cross product is above the tolerance exactly when the exact one is above zero,
use Rattle.std.specs.Prelude.{◌≡◌, ◌+◌, ◌^◌, ◌<◌, ◌≤◌}
use Rattle.laws.specs.Kit.{refl, true, ℕ, zero, suc, arith, mul-le-mul_right, mul-lt-mul_of_pos_right, lit<, lit≤, pow_pos, ℤ, pos, negsuc, Float, binary64, lt, neg}
use Rattle.std.proofs.Common.{lt_of_mul-lt-mul_right}
use Rattle.std.specs.Float.{Format}
use Rattle.definition.specs.Floats.{◌≺◌, 1e-12}
use Rattle.definition.specs.Plane.{Node, cross}
use Rattle.definition.specs.Exact.{arrow, exact_cross, AboveZero}
use Rattle.laws.specs.Bools.{of_T, to_T}
use Rattle.exact.specs.Near.{Whole, Near, ◌⊙◌}
use Rattle.exact.specs.Values.{whole, Ok}
use Rattle.exact.specs.Order.{◌⊏◌}
use Rattle.exact.proofs.Order.{lt_whole, whole_lt}
use Rattle.exact.specs.Units.{ofℤ, W}
use Rattle.exact.proofs.Units.{cross_is}
use Rattle.exact.specs.Points.{At, exactly, tiny_units}
use Rattle.exact.proofs.Points.{further, cross_ok, tiny_ok, tiny_is, minus_ok, minus_is}
use Rattle.exact.specs.Grid.{GridPoint}
use Rattle.exact.proofs.Grid.{cross_units}
use Rattle.exact.specs.Sides.{BelowZero, SameAs}

-- ---- the sign of an integer, by a difference
zero_not_above : AboveZero (pos zero) → ⊥
zero_not_above h = go h.0 h.1
  where
    go : (n : ℕ) → pos zero ≡ pos (suc n) → ⊥
    go n e = let z : zero ≡ suc n = cc in omega arith

minus_not_above : (k : ℕ) → AboveZero (negsuc k) → ⊥
minus_not_above k h = go h.0 h.1
  where
    go : (n : ℕ) → negsuc k ≡ pos (suc n) → ⊥
    go n e = let z : ◌≡◌ {A = ℕ} 0 1 = cc in omega arith

plus_not_below : (k : ℕ) → BelowZero (pos k) → ⊥
plus_not_below k h = go h.0 h.1
  where
    go : (n : ℕ) → pos k ≡ negsuc n → ⊥
    go n e = let z : ◌≡◌ {A = ℕ} 0 1 = cc in omega arith

above_is : (z : ℤ) (C : Whole) → Near (ofℤ z) C 0 → SameAs (AboveZero z) (C.1 < C.0)
above_is (pos zero) C n = (λ h. absurd (zero_not_above h), λ h. absurd (omega arith))
above_is (pos (suc k)) C n = (λ h. omega arith, λ h. (k, refl))
above_is (negsuc k) C n = (λ h. absurd (minus_not_above k h), λ h. absurd (omega arith))

below_is : (z : ℤ) (C : Whole) → Near (ofℤ z) C 0 → SameAs (BelowZero z) (C.0 < C.1)
below_is (pos k) C n = (λ h. absurd (plus_not_below k h), λ h. absurd (omega arith))
below_is (negsuc k) C n = (λ h. omega arith, λ h. (k, refl))

-- ---- one cross product
-- the exact cross product has the sign of its parts
scaled_above : (E k : Whole) (J : ℕ) → 0 < J → Near E (k ⊙ J ⊙ J) 0 → SameAs (E.1 < E.0) (k.1 < k.0)
scaled_above E k J P n = (
  λ h. lt_of_mul-lt-mul_right J (lt_of_mul-lt-mul_right J (omega arith)),
  λ h. let i = mul-lt-mul_of_pos_right (mul-lt-mul_of_pos_right h P) P in omega arith,
)

scaled_below : (E k : Whole) (J : ℕ) → 0 < J → Near E (k ⊙ J ⊙ J) 0 → SameAs (E.0 < E.1) (k.0 < k.1)
scaled_below E k J P n = scaled_above (E.1, E.0) (k.1, k.0) J P (omega arith)

-- the float of a cross product has its sign, by at least I units
parts_above : (r k : Whole) (I : ℕ) → 0 < I → Near r (k ⊙ I) 0 → SameAs (r.1 < r.0) (k.1 < k.0)
parts_above r k I P n = (λ h. lt_of_mul-lt-mul_right I (omega arith), λ h. let i = mul-lt-mul_of_pos_right h P in omega arith)

parts_far : (r k : Whole) (I : ℕ) → Near r (k ⊙ I) 0 → k.1 < k.0 → r.1 + I ≤ r.0
parts_far r k I n h = let i : suc k.1 ≤ k.0 = h in omega (arith, mul-le-mul_right I i)

tested_above : (t r k : Whole) (u I : ℕ) → t ≡ (u, 0) → 0 < I → u < I → Near r (k ⊙ I) 0 → SameAs (t ⊏ r) (k.1 < k.0)
tested_above t r k u I e P l n = rw e (λ h. (parts_above r k I P n).0 (plain h), λ h. far (parts_far r k I n h))
  where
    plain : (u, 0) ⊏ r → r.1 < r.0
    plain h = omega arith

    far : r.1 + I ≤ r.0 → (u, 0) ⊏ r
    far h = omega arith

tested_below : (t r k : Whole) (u I : ℕ) → t ≡ (0, u) → 0 < I → u < I → Near r (k ⊙ I) 0 → SameAs (r ⊏ t) (k.0 < k.1)
tested_below t r k u I e P l n = rw e (λ h. (parts_above (r.1, r.0) (k.1, k.0) I P (turn n)).0 (plain h), λ h. far (parts_far (r.1, r.0) (k.1, k.0) I (turn n) h))
  where
    turn : Near r (k ⊙ I) 0 → Near (r.1, r.0) ((k.1, k.0) ⊙ I) 0
    turn n = omega arith

    plain : r ⊏ (0, u) → r.0 < r.1
    plain h = omega arith

    far : r.0 + I ≤ r.1 → r ⊏ (0, u)
    far h = omega arith

-- a test and what it is
pub decided : (f : Format) (x y : Float) → Ok f x → Ok f y → SameAs (lt x y ≡ true) (whole f x ⊏ whole f y)
decided f x y o u = (λ e. lt_whole f x y o u (to_T e), λ h. of_T (lt x y) (whole_lt f x y o u h))

pub through : {P Q R : Type 0} → SameAs P Q → SameAs Q R → SameAs P R
through f g = (λ p. g.0 (f.0 p), λ r. f.1 (g.1 r))

pub back : {P Q : Type 0} → SameAs P Q → SameAs Q P
back f = (f.1, f.0)

module _ (a b c : Node) (A : At 8 a) (B : At 8 b) (C : At 8 c) (ga : GridPoint a) (gb : GridPoint b) (gc : GridPoint c) where
  unfoldable pub parts : Whole
  parts = (cross_units a b c A B C ga gb gc).0

  pub float_parts : Near (W (cross a b c)) (parts ⊙ 2 ^ 1054) 0
  unfolding parts
  float_parts = (cross_units a b c A B C ga gb gc).1

  pub exact_above : SameAs (AboveZero (exact_cross (arrow a b) (arrow a c))) (parts.1 < parts.0)
  unfolding parts
  exact_above = through (above_is (exact_cross (arrow a b) (arrow a c)) (exactly a b c) (cross_is a b a c)) (scaled_above (exactly a b c) parts (2 ^ 1064) (pow_pos 1064) (cross_units a b c A B C ga gb gc).2)

  pub exact_below : SameAs (BelowZero (exact_cross (arrow a b) (arrow a c))) (parts.0 < parts.1)
  unfolding parts
  exact_below = through (below_is (exact_cross (arrow a b) (arrow a c)) (exactly a b c) (cross_is a b a c)) (scaled_below (exactly a b c) parts (2 ^ 1064) (pow_pos 1064) (cross_units a b c A B C ga gb gc).2)

  pub float_ok : Ok binary64 (cross a b c)
  float_ok = (cross_ok a b c A B (further c 8 40 (lit≤ tt) C)).0

  pub left_exactly : SameAs ((1e-12 ≺ cross a b c) ≡ true) (AboveZero (exact_cross (arrow a b) (arrow a c)))
  unfolding ◌≺◌
  left_exactly = through (through (decided binary64 1e-12 (cross a b c) tiny_ok float_ok) (tested_above (whole binary64 1e-12) (W (cross a b c)) parts tiny_units (2 ^ 1054) tiny_is (pow_pos 1054) (lit< tt) float_parts)) (back exact_above)

  pub right_exactly : SameAs ((cross a b c ≺ neg 1e-12) ≡ true) (BelowZero (exact_cross (arrow a b) (arrow a c)))
  unfolding ◌≺◌
  right_exactly = through (through (decided binary64 (cross a b c) (neg 1e-12) float_ok minus_ok) (tested_below (whole binary64 (neg 1e-12)) (W (cross a b c)) parts tiny_units (2 ^ 1054) minus_is (pow_pos 1054) (lit< tt) float_parts)) (back exact_below)
