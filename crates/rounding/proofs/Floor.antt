-- `floor x` by its bits. A double is a / 2 ^ 1074, for a whole number a. Assumes nothing.
use Rattle.std.specs.Prelude.{◌≡◌, ◌⊎◌, ◌+◌, ◌-◌, ◌*◌, ◌/◌, ◌^◌, ◌<◌, ◌≤◌}
use Rattle.laws.specs.Kit.{refl, sym, ◌∙◌, ap, subst, inl, inr, Bool, true, false, cond, ℕ, arith, mul-pos, mul-le-mul_right, mul-lt-mul_of_pos_right, le_of_mul-le-mul_right, T, pow_pos, pow-add, pow_mono, ℤ, Float, binary64, nan, fin, inf, down, up, of_bits, fits, round}
use Rattle.std.proofs.Common.{zero-le, le_refl, le_trans, le_of_eq, lt_of_lt_of_le, lt_of_le_of_lt, eq-or-lt_of_le, zero-lt-suc, add-zero, add-mul, mul-one, one-mul, mul_comm, mul_assoc, mul_right_comm, lt_of_mul-lt-mul_right, div-mul-le_self, div-lt_iff_lt-mul, le-div_iff_mul-le}
use Rattle.std.proofs.Math.Nat.{eq_of_mul-eq-mul_right}
use Rattle.std.specs.Float.Ieee.Fits.{down_pos, round-fits}
use Rattle.std.specs.Float.Ieee.Bits.{of_bits-fits}
use Rattle.std.specs.Float.Ieee.Exact.{HasValue, round_exact}
use Rattle.std.specs.Float.Ieee.Back.{whole_unique}
use Rattle.definition.specs.Root.{floor}
use Rattle.rounding.specs.Parts.{Significand}
use Rattle.rounding.specs.Fields.{signed}
use Rattle.rounding.proofs.Fields.{signed_value}
use Rattle.rounding.specs.Floor.{Between}

-- ---- quotients by their bounds
floor_is : (n d c : ℕ) → 0 < d → c * d ≤ n → n < (c + 1) * d → n / d ≡ c
floor_is n d c p lo hi =
    let a : c ≤ n / d = (le-div_iff_mul-le p).1 lo in
    let b : n / d < c + 1 = (div-lt_iff_lt-mul p).1 hi in
    omega arith

ceil_is : (n d c : ℕ) → 0 < d → n ≤ c * d → c * d < n + d → (n + (d - 1)) / d ≡ c
ceil_is n d c p lo hi =
    let e : (c + 1) * d ≡ c * d + 1 * d = add-mul c 1 d in
    let a : c * d ≤ n + (d - 1) = omega arith in
    let b : n + (d - 1) < (c + 1) * d = omega arith in
    floor_is (n + (d - 1)) d c p a b

pub between_exact : (s : Bool) (a c : ℕ) → a ≡ c * 2 ^ 1074 → Between s a c
between_exact false a c e = (le_of_eq (sym e), lt_of_le_of_lt (le_of_eq e) (mul-lt-mul_of_pos_right (more c) (pow_pos 1074)))
  where
    more : (c : ℕ) → c < c + 1
    more c = omega arith
between_exact true a c e = (le_of_eq e, grow a (c * 2 ^ 1074) (2 ^ 1074) e (pow_pos 1074))
  where
    grow : (a b p : ℕ) → a ≡ b → 0 < p → b < a + p
    grow a b p e h = omega arith

-- from a / p to the same fraction n / d
module _ (n d a c p : ℕ) (P : 0 < p) (D : 0 < d) (e : n * p ≡ a * d) where
  carry_le : c * p ≤ a → c * d ≤ n
  carry_le h = le_of_mul-le-mul_right (le_trans (le_of_eq (mul_right_comm c d p)) (le_trans (mul-le-mul_right d h) (le_of_eq (sym e)))) P

  carry_lt : a < c * p → n < c * d
  carry_lt h = lt_of_mul-lt-mul_right p (lt_of_le_of_lt (le_of_eq e) (lt_of_lt_of_le (mul-lt-mul_of_pos_right h D) (le_of_eq (mul_right_comm c p d))))

  carry_ge : a ≤ c * p → n ≤ c * d
  carry_ge h = le_of_mul-le-mul_right (le_trans (le_of_eq e) (le_trans (mul-le-mul_right d h) (le_of_eq (mul_right_comm c p d)))) P

  carry_under : c * p < a + p → c * d < n + d
  carry_under h =
      lt_of_mul-lt-mul_right p
      (lt_of_le_of_lt (le_of_eq (mul_right_comm c d p))
      (lt_of_lt_of_le (mul-lt-mul_of_pos_right h D) (le_of_eq (add-mul a p d ∙ ap (λ (x : ℕ). x + p * d) (sym e) ∙ ap (λ (x : ℕ). n * p + x) (mul_comm p d) ∙ sym (add-mul n d p)))))

whole_is : (s : Bool) (m : ℕ) (e : ℤ) (a c : ℕ) → m * up e * 2 ^ 1074 ≡ a * down e → Between s a c → (m * up e + cond s (down e - 1) 0) / down e ≡ c
whole_is false m e a c h b =
    ap (λ (x : ℕ). x / down e) (add-zero (m * up e))
    ∙ floor_is (m * up e) (down e) c (down_pos e) (carry_le (m * up e) (down e) a c (2 ^ 1074) (pow_pos 1074) (down_pos e) h b.0) (carry_lt (m * up e) (down e) a (c + 1) (2 ^ 1074) (pow_pos 1074) (down_pos e) h b.1)
whole_is true m e a c h b =
    ceil_is (m * up e) (down e) c (down_pos e) (carry_ge (m * up e) (down e) a c (2 ^ 1074) (pow_pos 1074) (down_pos e) h b.0) (carry_under (m * up e) (down e) a c (2 ^ 1074) (pow_pos 1074) (down_pos e) h b.1)

-- ---- a double whose value is a whole number
in_ones : (y : Float) (s : Bool) (b c : ℕ) → b ≡ c * 2 ^ 1074 → HasValue y s b (2 ^ 1074) → HasValue y s c 1
in_ones nan s b c e v = v
in_ones (inf t) s b c e v = v
in_ones (fin t m d) s b c e v =
    (v.0, mul-one (m * up d) ∙ eq_of_mul-eq-mul_right (2 ^ 1074) (pow_pos 1074) (m * up d) (c * down d) (v.1 ∙ ap (λ (x : ℕ). x * down d) e ∙ mul_right_comm c (2 ^ 1074) (down d)))

room : (q d : ℕ) → q < 2 ^ 53 → d ≤ 2045 → q * 2 ^ d < 2 ^ 2098
room q d h l =
    let r : 53 + d ≤ 2098 = omega arith in
    lt_of_lt_of_le (mul-lt-mul_of_pos_right h (pow_pos d)) (le_trans (le_of_eq (sym (pow-add 2 53 d))) (pow_mono r))

exactly : (y : Float) (s : Bool) (c q d : ℕ) → T (fits binary64 y) → HasValue y s (q * 2 ^ d) (2 ^ 1074) → q < 2 ^ 53 → d ≤ 2045 → q * 2 ^ d ≡ c * 2 ^ 1074 → round binary64 s c 1 ≡ y
exactly y s c q d f v h l e =
    whole_unique binary64 (round binary64 s c 1) y s c (round-fits binary64 s c 1) f
    (round_exact binary64 s c 1 q d (zero-lt-suc 0) h (room q d h l) (sym e ∙ sym (mul-one (q * 2 ^ d))))
    (in_ones y s (q * 2 ^ d) c e v)

pub floor_eq : (s : Bool) (m : ℕ) (e : ℤ) → floor (fin s m e) ≡ round binary64 s ((m * up e + cond s (down e - 1) 0) / down e) 1
unfolding floor
floor_eq s m e = refl

-- y is the whole number c, and x is cut to c
pub settle : (x y : Float) (s : Bool) (a c q d : ℕ) → HasValue x s a (2 ^ 1074) → Between s a c → T (fits binary64 y) → HasValue y s (q * 2 ^ d) (2 ^ 1074) → q < 2 ^ 53 → d ≤ 2045 → q * 2 ^ d ≡ c * 2 ^ 1074 → y ≡ floor x
settle nan y s a c q d v b f w h l e = absurd v
settle (inf t) y s a c q d v b f w h l e = absurd v
settle (fin t m i) y s a c q d v b f w h l e =
    sym
    (ap (λ (z : Bool). floor (fin z m i)) v.0
    ∙ floor_eq s m i
    ∙ ap (λ (z : ℕ). round binary64 s z 1) (whole_is s m i a c v.1 b)
    ∙ exactly y s c q d f w h l e)

-- ---- y by its bits: d * 2 ^ 52 + w, with w from 2 ^ 52 to 2 ^ 53, stands for w * 2 ^ d
word_value : (s : Bool) (d w : ℕ) → 2 ^ 52 ≤ w → w < 2 ^ 53 → d ≤ 2045 → HasValue (of_bits binary64 (signed s (d * 2 ^ 52 + w))) s (w * 2 ^ d) (2 ^ 1074)
word_value s d w lo hi l =
    let a = d * 2 ^ 52 + w in
    let top : a < 2047 * 2 ^ 52 = omega arith in
    let e : a / 2 ^ 52 - 1 ≡ d = omega arith in
    let p : Significand a w = record { low = omega arith; high = omega arith; some = omega arith; short = hi } in
    subst (λ (x : ℕ). HasValue (of_bits binary64 (signed s a)) s (w * 2 ^ x) (2 ^ 1074)) e (signed_value s a w top p)

pub settle_word : (x : Float) (s : Bool) (a c d w : ℕ) → HasValue x s a (2 ^ 1074) → Between s a c → 2 ^ 52 ≤ w → w ≤ 2 ^ 53 → d ≤ 2000 → w * 2 ^ d ≡ c * 2 ^ 1074 → of_bits binary64 (signed s (d * 2 ^ 52 + w)) ≡ floor x
settle_word x s a c d w v b lo hi l e = go (eq-or-lt_of_le hi)
  where
    go : (w ≡ 2 ^ 53) ⊎ (w < 2 ^ 53) → of_bits binary64 (signed s (d * 2 ^ 52 + w)) ≡ floor x
    go (inl t) =
        let same : d * 2 ^ 52 + w ≡ (d + 1) * 2 ^ 52 + 2 ^ 52 = omega arith in
        let l' : d + 1 ≤ 2045 = omega arith in
        let p : 2 ^ (d + 1) ≡ 2 ^ d * 2 = pow-add 2 d 1 in
        let q : 2 ^ 52 * 2 ^ (d + 1) ≡ 2 ^ 53 * 2 ^ d = omega arith in
        let e' : 2 ^ 52 * 2 ^ (d + 1) ≡ c * 2 ^ 1074 = q ∙ ap (λ (z : ℕ). z * 2 ^ d) (sym t) ∙ e in
        ap (λ (z : ℕ). of_bits binary64 (signed s z)) same
        ∙ settle x (of_bits binary64 (signed s ((d + 1) * 2 ^ 52 + 2 ^ 52))) s a c (2 ^ 52) (d + 1) v b (of_bits-fits binary64 (signed s ((d + 1) * 2 ^ 52 + 2 ^ 52)))
        (word_value s (d + 1) (2 ^ 52) (omega arith) (omega arith) l') (omega arith) l' e'
    go (inr t) =
        let l' : d ≤ 2045 = omega arith in
        settle x (of_bits binary64 (signed s (d * 2 ^ 52 + w))) s a c w d v b (of_bits-fits binary64 (signed s (d * 2 ^ 52 + w))) (word_value s d w lo t l') t l' e

-- ---- by how large x is: m * 2 ^ d units
-- below 1
fraction : (m d : ℕ) → m < 2 ^ 53 → d ≤ 1021 → m * 2 ^ d < 2 ^ 1074
fraction m d h l =
    let r : 53 + d ≤ 1074 = omega arith in
    lt_of_lt_of_le (mul-lt-mul_of_pos_right h (pow_pos d)) (le_trans (le_of_eq (sym (pow-add 2 53 d))) (pow_mono r))

zero_value : HasValue (of_bits binary64 0) false (0 * 2 ^ 0) (2 ^ 1074)
unfolding of_bits
zero_value = (refl, refl)

pub low_down : (x : Float) (m d : ℕ) → HasValue x false (m * 2 ^ d) (2 ^ 1074) → m < 2 ^ 53 → d ≤ 1021 → of_bits binary64 0 ≡ floor x
low_down x m d v h l =
    settle x (of_bits binary64 0) false (m * 2 ^ d) 0 0 0 v (zero-le, fraction m d h l) (of_bits-fits binary64 0) zero_value (pow_pos 53) zero-le refl

pub low_up : (x : Float) (m d : ℕ) → HasValue x true (m * 2 ^ d) (2 ^ 1074) → 0 < m → m < 2 ^ 53 → d ≤ 1021 → of_bits binary64 (2 ^ 63 + 1023 * 2 ^ 52) ≡ floor x
low_up x m d v p h l =
    settle_word x true (m * 2 ^ d) 1 1022 (2 ^ 52) v (under (m * 2 ^ d) (2 ^ 1074) (fraction m d h l), over (m * 2 ^ d) (2 ^ 1074) (mul-pos p (pow_pos d))) (le_refl (2 ^ 52)) (omega arith) (omega arith) refl
  where
    under : (a b : ℕ) → a < b → a ≤ b
    under a b h = omega arith

    over : (a b : ℕ) → 0 < a → b < a + b
    over a b h = omega arith

-- the whole and the fraction: 2 ^ k, with k + d = 1074, is 1
module _ (m d k : ℕ) (lead : 2 ^ 52 ≤ m) (digits : m < 2 ^ 53) (one : d + k ≡ 1074) (K : k ≤ 52) where
  unit : 2 ^ k * 2 ^ d ≡ 2 ^ 1074
  unit = mul_comm (2 ^ k) (2 ^ d) ∙ sym (pow-add 2 d k) ∙ ap (λ (x : ℕ). 2 ^ x) one

  ones : (n : ℕ) → n * 2 ^ k * 2 ^ d ≡ n * 2 ^ 1074
  ones n = mul_assoc n (2 ^ k) (2 ^ d) ∙ ap (λ (x : ℕ). n * x) unit

  pub kept_ge : 2 ^ 52 ≤ m / 2 ^ k * 2 ^ k
  kept_ge =
      let e : 52 - k + k ≡ 52 = omega arith in
      let p : 2 ^ (52 - k) * 2 ^ k ≡ 2 ^ 52 = sym (pow-add 2 (52 - k) k) ∙ ap (λ (x : ℕ). 2 ^ x) e in
      le_trans (le_of_eq (sym p)) (mul-le-mul_right (2 ^ k) ((le-div_iff_mul-le (pow_pos k)).1 (le_trans (le_of_eq p) lead)))

  kept_le : (m / 2 ^ k + 1) * 2 ^ k ≤ 2 ^ 53
  kept_le =
      let e : 53 - k + k ≡ 53 = omega arith in
      let p : 2 ^ (53 - k) * 2 ^ k ≡ 2 ^ 53 = sym (pow-add 2 (53 - k) k) ∙ ap (λ (x : ℕ). 2 ^ x) e in
      let q : m / 2 ^ k < 2 ^ (53 - k) = (div-lt_iff_lt-mul (pow_pos k)).1 (lt_of_lt_of_le digits (le_of_eq (sym p))) in
      let r : m / 2 ^ k + 1 ≤ 2 ^ (53 - k) = omega arith in
      le_trans (mul-le-mul_right (2 ^ k) r) (le_of_eq p)

  next_gt : m < (m / 2 ^ k + 1) * 2 ^ k
  next_gt = (div-lt_iff_lt-mul (pow_pos k)).0 (more (m / 2 ^ k))
    where
      more : (c : ℕ) → c < c + 1
      more c = omega arith

  d_le : d ≤ 2000
  d_le = omega arith

  pub mid_down : (x : Float) → HasValue x false (m * 2 ^ d) (2 ^ 1074) → of_bits binary64 (signed false (d * 2 ^ 52 + m / 2 ^ k * 2 ^ k)) ≡ floor x
  mid_down x v =
      let w_le : m / 2 ^ k * 2 ^ k ≤ 2 ^ 53 = le_trans (div-mul-le_self m (2 ^ k)) (omega arith) in
      settle_word x false (m * 2 ^ d) (m / 2 ^ k) d (m / 2 ^ k * 2 ^ k) v
      (le_trans (le_of_eq (sym (ones (m / 2 ^ k)))) (mul-le-mul_right (2 ^ d) (div-mul-le_self m (2 ^ k))), lt_of_lt_of_le (mul-lt-mul_of_pos_right next_gt (pow_pos d)) (le_of_eq (ones (m / 2 ^ k + 1))))
      kept_ge w_le d_le (ones (m / 2 ^ k))

  pub mid_same : (x : Float) (s : Bool) → T (fits binary64 x) → HasValue x s (m * 2 ^ d) (2 ^ 1074) → m / 2 ^ k * 2 ^ k ≡ m → x ≡ floor x
  mid_same x s f v e =
      let t : m * 2 ^ d ≡ m / 2 ^ k * 2 ^ 1074 = ap (λ (y : ℕ). y * 2 ^ d) (sym e) ∙ ones (m / 2 ^ k) in
      let l : d ≤ 2045 = omega arith in
      settle x x s (m * 2 ^ d) (m / 2 ^ k) m d v (between_exact s (m * 2 ^ d) (m / 2 ^ k) t) f v digits l t

  pub mid_up : (x : Float) → HasValue x true (m * 2 ^ d) (2 ^ 1074) → (m / 2 ^ k * 2 ^ k ≡ m → ⊥) → of_bits binary64 (signed true (d * 2 ^ 52 + (m / 2 ^ k * 2 ^ k + 2 ^ k))) ≡ floor x
  mid_up x v f =
      let n = m / 2 ^ k + 1 in
      let w = m / 2 ^ k * 2 ^ k + 2 ^ k in
      let w_is : n * 2 ^ k ≡ w = add-mul (m / 2 ^ k) 1 (2 ^ k) ∙ ap (λ (y : ℕ). m / 2 ^ k * 2 ^ k + y) (one-mul (2 ^ k)) in
      let a : m / 2 ^ k * 2 ^ k ≤ m = div-mul-le_self m (2 ^ k) in
      let b : m / 2 ^ k * 2 ^ k < m = lib.Arith.lt_of_le-ne a f in
      let lo : 2 ^ 52 ≤ w = le_trans kept_ge (left (m / 2 ^ k * 2 ^ k) (2 ^ k)) in
      let hi : w ≤ 2 ^ 53 = le_trans (le_of_eq (sym w_is)) kept_le in
      let u : n * 2 ^ k < m + 2 ^ k = lt_of_le_of_lt (le_of_eq w_is) (both (m / 2 ^ k * 2 ^ k) m (2 ^ k) b) in
      let i : m * 2 ^ d ≤ n * 2 ^ 1074 = le_trans (less (m * 2 ^ d) (n * 2 ^ k * 2 ^ d) (mul-lt-mul_of_pos_right next_gt (pow_pos d))) (le_of_eq (ones n)) in
      let j : n * 2 ^ 1074 < m * 2 ^ d + 2 ^ 1074 = lt_of_le_of_lt (le_of_eq (sym (ones n))) (lt_of_lt_of_le (mul-lt-mul_of_pos_right u (pow_pos d)) (le_of_eq (add-mul m (2 ^ k) (2 ^ d) ∙ ap (λ (y : ℕ). m * 2 ^ d + y) unit))) in
      settle_word x true (m * 2 ^ d) n d w v (i, j) lo hi d_le (ap (λ (y : ℕ). y * 2 ^ d) (sym w_is) ∙ ones n)
    where
      left : (a b : ℕ) → a ≤ a + b
      left a b = omega arith

      both : (a b p : ℕ) → a < b → a + p < b + p
      both a b p h = omega arith

      less : (a b : ℕ) → a < b → a ≤ b
      less a b h = omega arith

-- 2 ^ 52 and above: whole already
pub large : (x : Float) (s : Bool) (m d : ℕ) → T (fits binary64 x) → HasValue x s (m * 2 ^ d) (2 ^ 1074) → m < 2 ^ 53 → d ≤ 2045 → 1074 ≤ d → x ≡ floor x
large x s m d f v h l g =
    let e : d ≡ d - 1074 + 1074 = omega arith in
    let t : m * 2 ^ d ≡ m * 2 ^ (d - 1074) * 2 ^ 1074 = ap (λ (y : ℕ). m * 2 ^ y) e ∙ ap (λ (y : ℕ). m * y) (pow-add 2 (d - 1074) 1074) ∙ sym (mul_assoc m (2 ^ (d - 1074)) (2 ^ 1074)) in
    settle x x s (m * 2 ^ d) (m * 2 ^ (d - 1074)) m d v (between_exact s (m * 2 ^ d) (m * 2 ^ (d - 1074)) t) f v h l t
