-- Numbers compared, and doubles with their bits.
use Rattle.std.specs.Prelude.{◌≡◌, ◌≢◌, ◌+◌, ◌*◌, ◌%◌, ◌^◌, ◌<◌, ◌≤◌}
use Rattle.laws.specs.Kit.{refl, sym, ◌∙◌, ap, subst, Bool, true, false, not, true≢false, ℕ, arith, ℕ_discrete, eqb, T, eq-eqb, ne_eqb, lt-ltb, Float, binary64, nan, fin, inf, of_bits, to_bits, div}
use Prim.Native.Nat.{compare, Ordering}
use Rattle.std.proofs.Math.Dec.{is_le, compare_is_eq, nleb→lt, eqb_refl}
use Rattle.std.proofs.Common.{leb→le, eqb→eq}
use Rattle.std.proofs.Math.Arith.{lt_of_le-ne, le→nltb}
use Rattle.std.specs.Float.Ieee.{ne, is_nan, nan_bits}
use Rattle.std.specs.Float.Ieee.Bits.{nan_bits_is, nan_bits_above}
use Rattle.std.specs.Float.Ieee.Compare.{differs_from_itself}
use Rattle.definition.specs.Floats.{f64}

pub clash : {A : Type 0} → ◌≡◌ {A = ℕ} 0 1 → A
clash e = absurd (omega arith)

pub eqb_swap : (a b : ℕ) → eqb a b ≡ eqb b a
eqb_swap a b = elim (ℕ_discrete a b) [ yes e ↦ eq-eqb a b e ∙ sym (eq-eqb b a (sym e)) | no d ↦ ne_eqb a b d ∙ sym (ne_eqb b a (λ e. d (sym e))) ]

-- what `compare` says
abbrev pub Cmp : Ordering → ℕ → ℕ → Type 0
Cmp Ordering.lt a b = a < b
Cmp Ordering.eq a b = a ≡ b
Cmp Ordering.gt a b = b < a

pub cmp : (a b : ℕ) → Cmp (compare a b) a b
cmp a b = go (compare a b) (leb→le a b) (nleb→lt a b) (eqb→eq a b) (λ (e : a ≡ b). subst (λ (x : ℕ). T (eqb a x)) e (eqb_refl a))
  where
    go : (o : Ordering) → (T (is_le o) → a ≤ b) → (T (not (is_le o)) → b < a) → (T (compare_is_eq o) → a ≡ b) → (a ≡ b → T (compare_is_eq o)) → Cmp o a b
    go Ordering.lt h k e n = lt_of_le-ne (h tt) n
    go Ordering.eq h k e n = e tt
    go Ordering.gt h k e n = k tt

-- the next number on
pub later : (i x : ℕ) → i ≤ x → x ≢ i → i + 1 ≤ x
later i x a q = omega arith

-- ---- doubles and their bits

-- a double that is equal to itself is a number
pub no_nan : (x : Float) → ne x x ≡ false → T (not (is_nan x))
unfolding ne is_nan
no_nan nan h = absurd (true≢false h)
no_nan (inf s) h = tt
no_nan (fin s m e) h = tt

-- one that is not is a NaN, whose bits are the logic's one pattern
pub of_nan : (x : Float) → ne x x ≡ true → 9221120237041090560 ≡ to_bits binary64 x
unfolding to_bits
of_nan x h = let e : x ≡ nan = differs_from_itself x (subst T (sym h) tt) in ap (to_bits binary64) (sym e)

nan_is : (x : Float) → is_nan x ≡ true → nan ≡ x
unfolding is_nan
nan_is nan h = refl
nan_is (inf s) h = clash (let z : ◌≡◌ {A = ℕ} 0 1 = cc in z)
nan_is (fin s m e) h = clash (let z : ◌≡◌ {A = ℕ} 0 1 = cc in z)

no_number : div binary64 (of_bits binary64 0) (of_bits binary64 0) ≡ nan
unfolding div of_bits
no_number = refl

-- a pattern above infinity's is a NaN's
pub of_nan_bits : (b : ℕ) → 2047 * 2 ^ 52 < b % 2 ^ 63 → div binary64 (of_bits binary64 0) (of_bits binary64 0) ≡ f64 b
unfolding f64
of_nan_bits b h = no_number ∙ nan_is (of_bits binary64 b) (sym (nan_bits_is binary64 b) ∙ nan_bits_above binary64 b ∙ lt-ltb (2047 * 2 ^ 52) (b % 2 ^ 63) h)

-- any other is a number's
pub no_nan_bits : (b : ℕ) → b % 2 ^ 63 ≤ 2047 * 2 ^ 52 → T (not (nan_bits binary64 b))
no_nan_bits b h = subst (λ (t : Bool). T (not t)) (sym (nan_bits_above binary64 b)) (le→nltb (2047 * 2 ^ 52) (b % 2 ^ 63) h)
