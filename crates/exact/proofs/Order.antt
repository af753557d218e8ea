-- The order of finite floats is that of their whole numbers, and finite floats are compared without a gap:
use Rattle.std.specs.Prelude.{◌≡◌, ◌||◌, ◌+◌, ◌*◌, ◌^◌, ◌<◌, ◌≤◌}
use Rattle.laws.specs.Kit.{sym, ◌∙◌, ap, subst, inl, inr, Bool, true, false, ℕ, arith, dec_lt, dec_le, mul-pos, mul-lt-mul_of_pos_right, eqb, T, pow_pos, Float, fin, down, up, eq, lt, le}
use Rattle.std.specs.Bool.{beq}
use Rattle.std.proofs.Common.{lt_of_mul-lt-mul_right, mul_comm, ltb→lt, lt→ltb, eqb→eq}
use Rattle.std.proofs.Math.Nat.{eq_of_mul-eq-mul_right}
use Rattle.std.specs.Float.{Format}
use Rattle.std.specs.Float.Ieee.{low, below, level}
use Rattle.std.specs.Float.Ieee.Fits.{down_pos, and_l, and_r, and_i, eq→eqb}
use Rattle.laws.specs.Bools.{TOr, TLeft, TRight}
use Rattle.exact.specs.Near.{Whole}
use Rattle.exact.specs.Values.{whole, signed, mag, Ok}
use Rattle.exact.proofs.Values.{mag_is, widen, widen'}
use Rattle.exact.specs.Order.{◌⊏◌, ◌⊑◌}

-- ---- from the test to the numbers
carry : (a b X Y L c : ℕ) → 0 < L → a < b → a * L ≡ X * c → b * L ≡ Y * c → X < Y
carry a b X Y L c P h p q = lt_of_mul-lt-mul_right c (omega (arith, mul-lt-mul_of_pos_right h P))

below_whole : (s : Bool) (a : ℕ) (t : Bool) (b X Y L c : ℕ) → 0 < L → a * L ≡ X * c → b * L ≡ Y * c → T (below s a t b) → (signed s X).0 + (signed t Y).1 < (signed t Y).0 + (signed s X).1
below_whole false a true b X Y L c P p q h = elim h [ ]
below_whole false a false b X Y L c P p q h = omega (arith, carry a b X Y L c P (ltb→lt a b h) p q)
below_whole true a false b X Y L c P p q h = omega (arith, carry 0 (a + b) 0 (X + Y) L c P (ltb→lt 0 (a + b) h) (omega arith) (omega arith))
below_whole true a true b X Y L c P p q h = omega (arith, carry b a Y X L c P (ltb→lt b a h) q p)

pub lt_whole : (f : Format) (x y : Float) → Ok f x → Ok f y → T (lt x y) → (whole f x).0 + (whole f y).1 < (whole f y).0 + (whole f x).1
unfolding lt whole
lt_whole f (fin s m e) (lib.Ieee.inf _) o u h = elim u [ ]
lt_whole f (fin s m e) lib.Ieee.nan o u h = elim u [ ]
lt_whole f (lib.Ieee.inf _) y o u h = elim o [ ]
lt_whole f lib.Ieee.nan y o u h = elim o [ ]
lt_whole f (fin s m e) (fin t n d) o u h =
    let Y = mag f (fin t n d) in
    below_whole s (m * up e * down d) t (n * up d * down e) (mag f (fin s m e)) Y (2 ^ low f) (down e * down d) (pow_pos (low f))
    (widen (m * up e) (2 ^ low f) (mag f (fin s m e)) (down e) (down d) (mag_is f (fin s m e) o)) (widen (n * up d) (2 ^ low f) Y (down d) (down e) (mag_is f (fin t n d) u) ∙ ap (λ (z : ℕ). Y * z) (mul_comm (down d) (down e))) h

same_mag : (a b X Y L c : ℕ) → 0 < c → a * L ≡ X * c → b * L ≡ Y * c → T (eqb a b) → X ≡ Y
same_mag a b X Y L c C p q h = eq_of_mul-eq-mul_right c C X Y (sym p ∙ ap (λ (z : ℕ). z * L) (eqb→eq a b h) ∙ q)

level_whole : (s : Bool) (a : ℕ) (t : Bool) (b X Y L c : ℕ) → 0 < c → a * L ≡ X * c → b * L ≡ Y * c → T (level s a t b) → (signed s X).0 + (signed t Y).1 ≡ (signed t Y).0 + (signed s X).1
level_whole s a t b X Y L c C p q h = go s t (same_mag a b X Y L c C p q (and_l (eqb a b) (beq s t || eqb a 0) h)) (and_r (eqb a b) (beq s t || eqb a 0) h)
  where
    go : (s t : Bool) → X ≡ Y → T (beq s t || eqb a 0) → (signed s X).0 + (signed t Y).1 ≡ (signed t Y).0 + (signed s X).1
    go false false e k = omega arith
    go true true e k = omega arith
    go false true e k = omega (arith, same_mag a 0 X 0 L c C p (omega arith) k)
    go true false e k = omega (arith, same_mag a 0 X 0 L c C p (omega arith) k)

pub le_whole : (f : Format) (x y : Float) → Ok f x → Ok f y → T (le x y) → (whole f x).0 + (whole f y).1 ≤ (whole f y).0 + (whole f x).1
unfolding le whole
le_whole f (fin s m e) (lib.Ieee.inf _) o u h = elim u [ ]
le_whole f (fin s m e) lib.Ieee.nan o u h = elim u [ ]
le_whole f (lib.Ieee.inf _) y o u h = elim o [ ]
le_whole f lib.Ieee.nan y o u h = elim o [ ]
le_whole f (fin s m e) (fin t n d) o u h =
    let a = m * up e * down d in
    let b = n * up d * down e in
    let X = mag f (fin s m e) in
    let Y = mag f (fin t n d) in
    let i = widen (m * up e) (2 ^ low f) X (down e) (down d) (mag_is f (fin s m e) o) in
    let j = widen' (n * up d) (2 ^ low f) Y (down d) (down e) (mag_is f (fin t n d) u) in
    elim (TOr (below s a t b) (level s a t b) h) [
      | inl l ↦ omega (arith, below_whole s a t b X Y (2 ^ low f) (down e * down d) (pow_pos (low f)) i j l)
      | inr l ↦ omega (arith, level_whole s a t b X Y (2 ^ low f) (down e * down d) (mul-pos (down_pos e) (down_pos d)) i j l)
    ]

-- ---- from the numbers to the test
back : (a b X Y L c : ℕ) → 0 < c → X < Y → a * L ≡ X * c → b * L ≡ Y * c → a < b
back a b X Y L c P h p q = lt_of_mul-lt-mul_right L (omega (arith, mul-lt-mul_of_pos_right h P))

whole_below : (s : Bool) (a : ℕ) (t : Bool) (b X Y L c : ℕ) → 0 < c → a * L ≡ X * c → b * L ≡ Y * c → signed s X ⊏ signed t Y → T (below s a t b)
whole_below false a false b X Y L c P p q h = lt→ltb a b (back a b X Y L c P (omega arith) p q)
whole_below false a true b X Y L c P p q h = absurd (omega arith)
whole_below true a false b X Y L c P p q h = lt→ltb 0 (a + b) (back 0 (a + b) 0 (X + Y) L c P (omega arith) (omega arith) (omega arith))
whole_below true a true b X Y L c P p q h = lt→ltb b a (back b a Y X L c P (omega arith) q p)

mag_same : (a b X Y L c : ℕ) → 0 < L → a * L ≡ X * c → b * L ≡ Y * c → X ≡ Y → a ≡ b
mag_same a b X Y L c P p q h = eq_of_mul-eq-mul_right L P a b (p ∙ ap (λ (z : ℕ). z * c) h ∙ sym q)

whole_level : (s : Bool) (a : ℕ) (t : Bool) (b X Y L c : ℕ) → 0 < L → a * L ≡ X * c → b * L ≡ Y * c → (signed s X).0 + (signed t Y).1 ≡ (signed t Y).0 + (signed s X).1 → T (level s a t b)
whole_level false a false b X Y L c P p q h = and_i (eqb a b) (true || eqb a 0) (eq→eqb (mag_same a b X Y L c P p q (omega arith))) tt
whole_level true a true b X Y L c P p q h = and_i (eqb a b) (true || eqb a 0) (eq→eqb (mag_same a b X Y L c P p q (omega arith))) tt
whole_level false a true b X Y L c P p q h = and_i (eqb a b) (eqb a 0) (eq→eqb (mag_same a b X Y L c P p q (omega arith))) (eq→eqb (mag_same a 0 X 0 L c P p (omega arith) (omega arith)))
whole_level true a false b X Y L c P p q h = and_i (eqb a b) (eqb a 0) (eq→eqb (mag_same a b X Y L c P p q (omega arith))) (eq→eqb (mag_same a 0 X 0 L c P p (omega arith) (omega arith)))

pub whole_lt : (f : Format) (x y : Float) → Ok f x → Ok f y → whole f x ⊏ whole f y → T (lt x y)
unfolding lt whole
whole_lt f (fin s m e) (lib.Ieee.inf _) o u h = elim u [ ]
whole_lt f (fin s m e) lib.Ieee.nan o u h = elim u [ ]
whole_lt f (lib.Ieee.inf _) y o u h = elim o [ ]
whole_lt f lib.Ieee.nan y o u h = elim o [ ]
whole_lt f (fin s m e) (fin t n d) o u h =
    let Y = mag f (fin t n d) in
    whole_below s (m * up e * down d) t (n * up d * down e) (mag f (fin s m e)) Y (2 ^ low f) (down e * down d) (mul-pos (down_pos e) (down_pos d))
    (widen (m * up e) (2 ^ low f) (mag f (fin s m e)) (down e) (down d) (mag_is f (fin s m e) o)) (widen' (n * up d) (2 ^ low f) Y (down d) (down e) (mag_is f (fin t n d) u)) h

pub whole_le : (f : Format) (x y : Float) → Ok f x → Ok f y → whole f x ⊑ whole f y → T (le x y)
unfolding le lt eq whole
whole_le f (fin s m e) (lib.Ieee.inf _) o u h = elim u [ ]
whole_le f (fin s m e) lib.Ieee.nan o u h = elim u [ ]
whole_le f (lib.Ieee.inf _) y o u h = elim o [ ]
whole_le f lib.Ieee.nan y o u h = elim o [ ]
whole_le f (fin s m e) (fin t n d) o u h =
    let a = m * up e * down d in
    let b = n * up d * down e in
    let X = mag f (fin s m e) in
    let Y = mag f (fin t n d) in
    let i = widen (m * up e) (2 ^ low f) X (down e) (down d) (mag_is f (fin s m e) o) in
    let j = widen' (n * up d) (2 ^ low f) Y (down d) (down e) (mag_is f (fin t n d) u) in
    elim (dec_lt ((signed s X).0 + (signed t Y).1) ((signed t Y).0 + (signed s X).1)) [
      | yes l ↦ TLeft (below s a t b) (level s a t b) (whole_below s a t b X Y (2 ^ low f) (down e * down d) (mul-pos (down_pos e) (down_pos d)) i j l)
      | no l ↦ TRight (below s a t b) (level s a t b) (whole_level s a t b X Y (2 ^ low f) (down e * down d) (pow_pos (low f)) i j (omega arith))
    ]

-- ---- by the computed answer
pub is_not : {b : Bool} → b ≡ false → T b → ⊥
is_not e t = subst T e t

pub not_lt : (f : Format) (x y : Float) → Ok f x → Ok f y → lt x y ≡ false → whole f y ⊑ whole f x
not_lt f x y o u e = elim (dec_lt ((whole f x).0 + (whole f y).1) ((whole f y).0 + (whole f x).1)) [
  | yes l ↦ absurd (is_not e (whole_lt f x y o u l))
  | no l ↦ omega arith
]

pub not_le : (f : Format) (x y : Float) → Ok f x → Ok f y → le x y ≡ false → whole f y ⊏ whole f x
not_le f x y o u e = elim (dec_le ((whole f x).0 + (whole f y).1) ((whole f y).0 + (whole f x).1)) [
  | yes l ↦ absurd (is_not e (whole_le f x y o u l))
  | no l ↦ omega arith
]
