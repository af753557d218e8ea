-- Without a size the target is the edge's own length, and no length is off itself: half of it is not above it,
-- nor one and a half times it below it, also as rounded.
-- Assumes nothing.
use Rattle.std.specs.Prelude.{◌≡◌, ◌||◌, ◌+◌, ◌*◌, ◌^◌, ◌<◌, ◌≤◌}
use Rattle.laws.specs.Kit.{refl, sym, ap, true, false, ℕ, arith, dec_le, mul-le-mul, mul-le-mul_right, eqb, lit≤, pow_pos, Float, binary64, nan, fin, inf, down, up, of_bits, fits, eq, lt, mul}
use Rattle.std.proofs.Common.{eqb→eq, ltb→lt}
use Rattle.std.specs.Float.Ieee.Fits.{and_l}
use Rattle.definition.specs.Floats.{◌≺◌, f64, 0·0, 0·5, 1·5, 1e-12}
use Rattle.definition.specs.Floats as floats
use Rattle.definition.specs.Numbers.{Settings, mismatch_low, mismatch_high, tiny_length}
use Rattle.definition.specs.Plane.{size_mismatch}
use Rattle.definition.specs.Attempt.{target_of}
use Rattle.laws.specs.Bools.{to_T, refuted}
use Rattle.exact.specs.Near.{Whole, Near, Within, ◌⊗◌, ◌⊙◌}
use Rattle.exact.proofs.Near.{within_mul}
use Rattle.exact.specs.Values.{whole, Ok}
use Rattle.exact.proofs.Values.{mul_rel}
use Rattle.exact.specs.Order.{◌⊏◌, ◌⊑◌}
use Rattle.exact.proofs.Order.{lt_whole, is_not}
use Rattle.exact.proofs.Room.{room64, product_fits}
use Rattle.exact.specs.Finite.{Positive}

half_ok : Ok binary64 0·5
unfolding 0·5 f64 of_bits fits
half_ok = tt

half_is : whole binary64 0·5 ≡ (2 ^ 1073, 0)
unfolding 0·5 f64 of_bits whole
half_is = refl

more_ok : Ok binary64 1·5
unfolding 1·5 f64 of_bits fits
more_ok = tt

more_is : whole binary64 1·5 ≡ (3 * 2 ^ 1073, 0)
unfolding 1·5 f64 of_bits whole
more_is = refl

-- r is the rounded half of X: M is half of 1, in units
low : (r X : Whole) (M Q H : ℕ) → 0 < M → 2 * H ≡ Q → 3 ≤ Q → X.1 ≡ 0 → Near (r ⊙ (2 * M) ⊙ Q) ((M, 0) ⊗ X ⊙ Q) (M * X.0 + H * (2 * M)) → r ⊑ X
low r X M Q H P q many e n = elim (dec_le (r.0 + X.1) (X.0 + r.1)) [
  | yes l ↦ l
  | no l ↦
      let i : X.0 + r.1 + 1 ≤ r.0 = omega arith in
      let j : (X.0 + r.1 + 1) * (M * Q) ≤ r.0 * (M * Q) = mul-le-mul_right (M * Q) i in
      let k : 3 * (M * X.0) ≤ Q * (M * X.0) = mul-le-mul_right (M * X.0) many in
      let s : 1 * 3 ≤ M * Q = mul-le-mul P many in
      absurd (omega (arith, ap (λ (z : ℕ). z * M) q, ap (λ (z : ℕ). M * z * Q) e))
]

-- r is the rounded one and a half times X
high : (r X : Whole) (M Q H : ℕ) → 0 < M → 2 * H ≡ Q → 3 ≤ Q → X.1 ≡ 0 → Near (r ⊙ (2 * M) ⊙ Q) ((3 * M, 0) ⊗ X ⊙ Q) (3 * M * X.0 + H * (2 * M)) → X ⊑ r
high r X M Q H P q many e n = elim (dec_le (X.0 + r.1) (r.0 + X.1)) [
  | yes l ↦ l
  | no l ↦
      let i : r.0 + 1 ≤ X.0 + r.1 = omega arith in
      let j : (r.0 + 1) * (M * Q) ≤ (X.0 + r.1) * (M * Q) = mul-le-mul_right (M * Q) i in
      let k : 3 * (M * X.0) ≤ Q * (M * X.0) = mul-le-mul_right (M * X.0) many in
      let s : 1 * 3 ≤ M * Q = mul-le-mul P many in
      absurd (omega (arith, ap (λ (z : ℕ). z * M) q, ap (λ (z : ℕ). 3 * M * z * Q) e))
]

clash : (x y : Whole) → x ⊏ y → y ⊑ x → ⊥
clash x y h k = omega arith

itself : (X : Whole) → X.1 ≡ 0 → Within X X.0
itself X e = omega arith

some : (M : ℕ) → Within (M, 0) M
some M = omega arith

room : (M L S n : ℕ) → M ≤ n * L → S ≤ 64 * L → M * S ≤ 64 * n * L * L
room M L S n h k = omega (arith, mul-le-mul h k)

module _ (x : Float) (p : Positive 64 x) where
  not_low : lt x (mul binary64 0·5 x) ≡ false
  not_low =
      let M = 2 ^ 1073 in
      let X = whole binary64 x in
      let w : Within (whole binary64 0·5 ⊗ X) (M * X.0) = within_mul (whole binary64 0·5) X M X.0 (rw half_is (some M)) (itself X p.1) in
      let r = mul_rel binary64 0·5 x (M * X.0) half_ok p.0 w (product_fits binary64 (2 ^ 1021) room64 64 (M * X.0) (lit≤ tt) (room M (2 ^ 1074) X.0 1 (lit≤ tt) p.2)) in
      refuted (lt x (mul binary64 0·5 x)) (λ t. clash X (whole binary64 (mul binary64 0·5 x)) (lt_whole binary64 x (mul binary64 0·5 x) p.0 r.0 t) (low (whole binary64 (mul binary64 0·5 x)) X M (2 ^ 53) (2 ^ 52) (pow_pos 1073) refl (lit≤ tt) p.1 (rw half_is at r.1)))

  not_high : lt (mul binary64 1·5 x) x ≡ false
  not_high =
      let M = 2 ^ 1073 in
      let X = whole binary64 x in
      let w : Within (whole binary64 1·5 ⊗ X) (3 * M * X.0) = within_mul (whole binary64 1·5) X (3 * M) X.0 (rw more_is (some (3 * M))) (itself X p.1) in
      let r = mul_rel binary64 1·5 x (3 * M * X.0) more_ok p.0 w (product_fits binary64 (2 ^ 1021) room64 128 (3 * M * X.0) (lit≤ tt) (room (3 * M) (2 ^ 1074) X.0 2 (lit≤ tt) p.2)) in
      refuted (lt (mul binary64 1·5 x) x) (λ t. clash (whole binary64 (mul binary64 1·5 x)) X (lt_whole binary64 (mul binary64 1·5 x) x r.0 p.0 t) (high (whole binary64 (mul binary64 1·5 x)) X M (2 ^ 53) (2 ^ 52) (pow_pos 1073) refl (lit≤ tt) p.1 (rw more_is at r.1)))

-- No length is off itself.
pub never_off : (x : Float) → Positive 64 x → size_mismatch x x ≡ false
unfolding size_mismatch mismatch_low mismatch_high ◌≺◌ floats.◌⊗◌
never_off x p = rw (not_low x p, not_high x p) refl

-- Without a size the target is the length.
pub target_itself : (s : Settings) → (tiny_length ≺ s.size) ≡ false → (x : Float) → target_of s x ≡ x
unfolding target_of
target_itself s e x = rw e refl

-- Neither zero is a size.
pub zero_unsized : (x : Float) → eq x 0·0 ≡ true → (tiny_length ≺ x) ≡ false
unfolding tiny_length ◌≺◌ lt eq 0·0 1e-12 f64 of_bits
zero_unsized nan h = refl
zero_unsized (inf false) h = absurd (is_not (sym h) tt)
zero_unsized (inf true) h = refl
zero_unsized (fin true m e) h = refl
zero_unsized (fin false m e) h =
    refuted (tiny_length ≺ fin false m e) (λ t. none (m * up e) (down e) _ _ (eqb→eq _ _ (and_l (eqb (m * up e * 1) (0 * 1 * down e)) (true || eqb (m * up e * 1) 0) (to_T h))) (ltb→lt _ _ t))
  where
    none : (n d a D : ℕ) → n * 1 ≡ 0 * 1 * d → a < n * D → ⊥
    none n d a D e l = let z : n ≡ 0 = omega arith in let y = ap (λ (x : ℕ). x * D) z in omega arith
