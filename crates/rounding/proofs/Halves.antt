-- A vector's length from the length of its double, where tests of floats show that nothing
use Rattle.std.specs.Prelude.{◌≡◌, ◌||◌, ◌*◌, ◌^◌, ◌≤◌}
use Rattle.laws.specs.Kit.{refl, sym, ◌∙◌, ap, inl, inr, Bool, true, false, ℕ, zero, suc, arith, mul-pos, le_of_mul-le-mul_right, eqb, lit≤, T, pow_pos, ℤ, Float, binary64, nan, fin, inf, down, up, of_bits, fits, round, eq, mul}
use Rattle.std.proofs.Common.{le_trans, zero-mul, eqb→eq}
use Rattle.std.proofs.Math.Nat.{mul-mul-mul_comm}
use Rattle.std.specs.Bool.{beq}
use Rattle.std.specs.Float.Ieee.Fits.{down_pos, and_l}
use Rattle.std.specs.Float.Ieee.Positive.{positive, between, own_value, values_of_le, num, den}
use Rattle.std.specs.Float.Ieee.Scale.{round_same}
use Rattle.definition.specs.Floats.{◌⊕◌, ◌⊗◌, ◌≼◌, abs, f64, 0·0, 0·5}
use Rattle.definition.specs.Root.{sqrt}
use Rattle.laws.specs.Bools.{to_T}
use Rattle.rounding.proofs.Near.{digits_of}
use Rattle.rounding.specs.Fourfold.{Middling}
use Rattle.rounding.proofs.Fourfold.{alike, half_root}
use Rattle.rounding.specs.Halves.{HalfOf, largest, smallest}

nothing : (M D : ℕ) → M * 1 ≡ 0 * 1 * D → M ≡ 0
nothing M D e = omega arith

-- zero, of either sign
middling_zero : (x : Float) → T (eq x 0·0) → Middling x
unfolding eq 0·0 f64 of_bits
middling_zero nan t = absurd t
middling_zero (inf s) t = absurd t
middling_zero (fin s m e) t =
    let h : m * up e ≡ 0 = nothing (m * up e) (down e) (eqb→eq (m * up e * 1) (0 * 1 * down e) (and_l (eqb (m * up e * 1) (0 * 1 * down e)) (beq s false || eqb (m * up e * 1) 0) t)) in
    record { s = s; n = 0; d = 0; digits = pow_pos 53; value = (refl, ap (λ (z : ℕ). z * 2 ^ 1074) h ∙ sym (zero-mul (down e))); sized = inl refl }

plus_fits : (s : Bool) (m : ℕ) (e : ℤ) → T (fits binary64 (fin s (suc m) e)) → T (fits binary64 (fin false (suc m) e))
unfolding fits
plus_fits s m e t = t

-- the two ends are finite and above zero
ends : T (positive smallest) × T (positive largest)
unfolding smallest largest f64 of_bits
ends = (tt, tt)

sized_by : (a : ℕ) → num smallest * 2 ^ 1074 ≤ a * den smallest → a * den largest ≤ num largest * 2 ^ 1074 → (2 ^ 563 ≤ a) × (a ≤ 2 ^ 1573)
unfolding smallest largest f64 of_bits
sized_by a lo hi = (
  le_of_mul-le-mul_right {k = den smallest} (le_trans (lit≤ tt) lo) (lit≤ tt),
  le_of_mul-le-mul_right {k = den largest} (le_trans hi (lit≤ tt)) (lit≤ tt),
)

-- from 1e-150 to 1e150 in size
middling_size : (x : Float) → T (fits binary64 x) → T (smallest ≼ abs x) → T (abs x ≼ largest) → Middling x
unfolding ◌≼◌ abs
middling_size nan f lo hi = absurd (between smallest nan largest ends.0 ends.1 lo hi)
middling_size (inf s) f lo hi = absurd (between smallest (inf false) largest ends.0 ends.1 lo hi)
middling_size (fin s zero e) f lo hi = absurd (between smallest (fin false 0 e) largest ends.0 ends.1 lo hi)
middling_size (fin s (suc m) e) f lo hi =
    let y = fin false (suc m) e in
    let above = between smallest y largest ends.0 ends.1 lo hi in
    let p = digits_of m e (plus_fits s m e f) in
    let a = p.0 * 2 ^ p.1 in
    let low = values_of_le smallest y (num smallest) (den smallest) a (2 ^ 1074) ends.0 above (own_value smallest ends.0) p.5 lo in
    let high = values_of_le y largest a (2 ^ 1074) (num largest) (den largest) above ends.1 p.5 (own_value largest ends.1) hi in
    record { s = s; n = p.0; d = p.1; digits = p.3; value = (refl, p.5.1); sized = inr (sized_by a low high) }

-- floats that compare as equal have one square
same_square : (x u : Float) → T (eq x u) → x ⊗ x ≡ u ⊗ u
unfolding eq ◌⊗◌ mul
same_square nan u t = absurd t
same_square (inf s) nan t = absurd t
same_square (inf true) (inf true) t = refl
same_square (inf true) (inf false) t = absurd t
same_square (inf false) (inf true) t = absurd t
same_square (inf false) (inf false) t = refl
same_square (inf s) (fin v n d) t = absurd t
same_square (fin s m e) nan t = absurd t
same_square (fin s m e) (inf v) t = absurd t
same_square (fin s m e) (fin v n d) t =
    let M = m * up e in
    let N = n * up d in
    let h : M * down d ≡ N * down e = eqb→eq (M * down d) (N * down e) (and_l (eqb (M * down d) (N * down e)) (beq s v || eqb (M * down d) 0) t) in
    ap (λ (u : Bool). round binary64 u (M * M) (down e * down e)) (alike s)
    ∙ round_same binary64 false (M * M) (down e * down e) (N * N) (down d * down d) (mul-pos (down_pos e) (down_pos e)) (mul-pos (down_pos d) (down_pos d))
    (mul-mul-mul_comm M M (down d) (down d) ∙ ap (λ (z : ℕ). z * z) h ∙ mul-mul-mul_comm N (down e) N (down e))
    ∙ sym (ap (λ (u : Bool). round binary64 u (N * N) (down d * down d)) (alike v))

-- where x is zero
pub half_zero : (x u : Float) → eq (x ⊕ x) u ≡ true → eq x 0·0 ≡ true → HalfOf x u
half_zero x u e z = record { middling = middling_zero x (to_T z); twice = to_T e }

-- x is half of u where its size is in the range
pub half_size : (x u : Float) → fits binary64 x ≡ true → eq (x ⊕ x) u ≡ true → (smallest ≼ abs x) ≡ true → (abs x ≼ largest) ≡ true → HalfOf x u
half_size x u f e lo hi = record { middling = middling_size x (to_T f) (to_T lo) (to_T hi); twice = to_T e }

-- the length of a vector is half of the length of its double
pub half_length : (x y u v : Float) → HalfOf x u → HalfOf y v → 0·5 ⊗ sqrt (u ⊗ u ⊕ v ⊗ v) ≡ sqrt (x ⊗ x ⊕ y ⊗ y)
half_length x y u v p q =
    ap (λ (z : Float). 0·5 ⊗ sqrt (z ⊕ v ⊗ v)) (sym (same_square (x ⊕ x) u p.twice))
    ∙ ap (λ (z : Float). 0·5 ⊗ sqrt ((x ⊕ x) ⊗ (x ⊕ x) ⊕ z)) (sym (same_square (y ⊕ y) v q.twice))
    ∙ half_root x y p.middling q.middling
