-- A vector that is doubled is twice as long, in floats too: where nothing underflows and nothing overflows,
use Rattle.std.specs.Prelude.{◌≡◌, ◌⊎◌, ◌+◌, ◌-◌, ◌*◌, ◌/◌, ◌%◌, ◌^◌, ◌<◌, ◌≤◌}
use Rattle.laws.specs.Kit.{refl, sym, ◌∙◌, ap, subst, inl, inr, Bool, true, false, true≢false, ℕ, zero, suc, arith, mul-pos, mul-le-mul, mul-le-mul_right, mul-lt-mul_of_pos_right, lit<, lit≤, T, pow_pos, pow-add, pow_mono, ℤ, Float, binary64, nan, fin, inf, down, up, of_bits, fits, round, add, mul}
use Prim.Native.Nat.{compare}
use Rattle.std.proofs.Common.{le_trans, le_of_eq, lt_of_lt_of_le, lt_of_le_of_lt, lt_of_not-le, not-le_of_lt, zero-lt-suc, zero-mul, mul_assoc, le-mul_of_pos_right, le-div_iff_mul-le, div-lt_iff_lt-mul}
use Rattle.std.proofs.Math.Nat.{mul-mul-mul_comm, eq_of_mul-eq-mul_right, div-div-eq-div-mul}
use Rattle.std.specs.Float.Ieee.{unlike, size, units}
use Rattle.std.specs.Float.Ieee.Digits.{size-lt, size-le, size_reaches}
use Rattle.std.specs.Float.Ieee.Fits.{down_pos, kept-lt, nearest-le, round-fits, add-fits, mul-fits}
use Rattle.std.specs.Float.Ieee.Exact.{HasValue, units_val, round_exact}
use Rattle.std.specs.Float.Ieee.Nearest.{nearest-ge}
use Rattle.std.specs.Float.Ieee.Order.{drop, kept}
use Rattle.std.specs.Float.Ieee.Scale.{round_same, grid, round_val, grid_scale, normal_of_fraction}
use Rattle.std.specs.Float.Ieee.Positive.{positive_of_value, mul_at}
use Rattle.definition.specs.Floats.{◌⊕◌, ◌⊗◌, f64, 0·0, 0·5}
use Rattle.definition.specs.Root.{sqrt}
use Rattle.rounding.proofs.Fields.{same_value}
use Rattle.rounding.proofs.Root.{sqrt_is, root_units, root_ge, root_lt, no_value}
use Rattle.rounding.proofs.Near.{parts, small_enough}
use Rattle.rounding.specs.Fourfold.{Four, Middling}

-- ---- a fraction of units that is not subnormal, rounded: it stays below the power of two that it is below
kept_within : (n c j : ℕ) → 0 < c → 2 ^ 52 * c ≤ n → n < 2 ^ j * c → (2 ^ 52 ≤ kept 53 n c * 2 ^ drop 53 n c) × (kept 53 n c * 2 ^ drop 53 n c ≤ 2 ^ j)
kept_within n c j C lo hi =
    let w = n / c in
    let k = size w - 53 in
    let w_lo : 2 ^ 52 ≤ w = (le-div_iff_mul-le C).1 lo in
    let z_hi : size w ≤ j = size-le w j ((div-lt_iff_lt-mul C).1 hi) in
    let z_lo : 52 < size w = lt_of_not-le (λ (g : size w ≤ 52). not-le_of_lt (lt_of_lt_of_le (size-lt w) (pow_mono g)) w_lo) in
    let in_use : 52 + k < size w = omega arith in
    let fit : 53 + k ≤ j = omega arith in
    let d : w / 2 ^ k ≡ n / (c * 2 ^ k) = div-div-eq-div-mul n c (2 ^ k) in
    let q_lo : 2 ^ 52 ≤ w / 2 ^ k = (le-div_iff_mul-le (pow_pos k)).1 (le_trans (le_of_eq (sym (pow-add 2 52 k))) (size_reaches w (52 + k) in_use)) in
    let u = c * 2 ^ k in
    let KLo : 2 ^ 52 ≤ kept 53 n c = le_trans (subst (λ (x : ℕ). 2 ^ 52 ≤ x) d q_lo) (nearest-ge (n / u) (compare (n % u * 2) u)) in
    let KHi : kept 53 n c ≤ 2 ^ 53 = le_trans (nearest-le (n / u) (compare (n % u * 2) u)) (subst (λ (x : ℕ). x < 2 ^ 53) d (kept-lt 53 w)) in
    (le_trans KLo (le-mul_of_pos_right (kept 53 n c) (pow_pos k)), le_trans (mul-le-mul_right (2 ^ k) KHi) (le_trans (le_of_eq (sym (pow-add 2 53 k))) (pow_mono fit)))

zero_value : (c : ℕ) → 0 < c → HasValue (round binary64 false 0 c) false 0 (2 ^ 1074)
zero_value c C =
    subst (λ (x : Float). HasValue x false 0 (2 ^ 1074)) (round_same binary64 false 0 (2 ^ 1074) 0 c (pow_pos 1074) C (zero-mul c ∙ sym (zero-mul (2 ^ 1074))))
    (round_exact binary64 false 0 (2 ^ 1074) 0 0 (pow_pos 1074) (pow_pos 53) (pow_pos 2098) refl)

under : (g j : ℕ) → j ≤ 2095 → g ≤ 2 ^ j → g * 4 < 2 ^ 2098
under g j h l =
    let a : j + 2 ≤ 2097 = omega arith in
    lt_of_le_of_lt (mul-le-mul_right 4 l) (lt_of_le_of_lt (le_of_eq (sym (pow-add 2 j 2))) (lt_of_le_of_lt (pow_mono a) (lit< tt)))

-- a fraction and four times the fraction, rounded
round_four : (a c j : ℕ) → 0 < c → j ≤ 2095 → (a ≡ 0) ⊎ ((2 ^ 52 * c ≤ a * 2 ^ 1074) × (a * 2 ^ 1074 < 2 ^ j * c)) → Four j (round binary64 false a c) (round binary64 false (a * 4) c)
round_four a c j C J (inl e) =
    subst (λ (x : ℕ). Four j (round binary64 false x c) (round binary64 false (x * 4) c)) (sym e)
    (record { g = 0; once = zero_value c C; fourfold = zero_value c C; sized = inl refl })
round_four a c j C J (inr b) =
    let g = grid binary64 a c in
    let in_range = kept_within (a * 2 ^ 1074) c j C b.0 b.1 in
    let four : grid binary64 (a * 4) c ≡ g * 4 = grid_scale binary64 a c 2 C (normal_of_fraction binary64 a c C b.0) in
    let room : g * 4 < 2 ^ 2098 = under g j J in_range.1 in
    record {
      g = g;
      once = round_val binary64 a c (lt_of_le_of_lt (le-mul_of_pos_right g (zero-lt-suc 3)) room);
      fourfold = subst (λ (x : ℕ). HasValue (round binary64 false (a * 4) c) false x (2 ^ 1074)) four (round_val binary64 (a * 4) c (subst (λ (x : ℕ). x < 2 ^ 2098) (sym four) room));
      sized = inr in_range;
    }

-- ---- the three operations, by values in units
module _ (P : ℕ) where
  twice_cross : (M D a : ℕ) → M * P ≡ a * D → (M * D + M * D) * P ≡ a * 2 * (D * D)
  twice_cross M D a e =
      let h : M * P * D ≡ a * D * D = ap (λ (z : ℕ). z * D) e in
      omega arith

  sum_cross : (M D N E a b : ℕ) → M * P ≡ a * D → N * P ≡ b * E → (M * E + N * D) * P ≡ (a + b) * (D * E)
  sum_cross M D N E a b e f =
      let h : M * P * E ≡ a * D * E = ap (λ (z : ℕ). z * E) e in
      let k : N * P * D ≡ b * E * D = ap (λ (z : ℕ). z * D) f in
      omega arith

-- x + x
twice_is : (s : Bool) (m : ℕ) (e : ℤ) (a : ℕ) → m * up e * 2 ^ 1074 ≡ a * down e → fin s m e ⊕ fin s m e ≡ round binary64 s (a * 2) (2 ^ 1074)
unfolding ◌⊕◌ add
twice_is true m e a v = round_same binary64 true (m * up e * down e + m * up e * down e) (down e * down e) (a * 2) (2 ^ 1074) (mul-pos (down_pos e) (down_pos e)) (pow_pos 1074) (twice_cross (2 ^ 1074) (m * up e) (down e) a v)
twice_is false m e a v = round_same binary64 false (m * up e * down e + m * up e * down e) (down e * down e) (a * 2) (2 ^ 1074) (mul-pos (down_pos e) (down_pos e)) (pow_pos 1074) (twice_cross (2 ^ 1074) (m * up e) (down e) a v)

-- x * x, which is not negative
pub alike : (t : Bool) → unlike t t ≡ false
alike true = refl
alike false = refl

square_is : (x : Float) (s : Bool) (a : ℕ) → HasValue x s a (2 ^ 1074) → x ⊗ x ≡ round binary64 false (a * a) (2 ^ 1074 * 2 ^ 1074)
unfolding ◌⊗◌ mul
square_is nan s a v = absurd v
square_is (inf t) s a v = absurd v
square_is (fin t m e) s a v =
    ap (λ (u : Bool). round binary64 u (m * up e * (m * up e)) (down e * down e)) (alike t)
    ∙ round_same binary64 false (m * up e * (m * up e)) (down e * down e) (a * a) (2 ^ 1074 * 2 ^ 1074) (mul-pos (down_pos e) (down_pos e)) (mul-pos (pow_pos 1074) (pow_pos 1074))
    (mul-mul-mul_comm (m * up e) (m * up e) (2 ^ 1074) (2 ^ 1074) ∙ ap (λ (z : ℕ). z * z) v.1 ∙ mul-mul-mul_comm a (down e) a (down e))

-- v + w, of two that are not negative
sum_is : (v w : Float) (a b : ℕ) → HasValue v false a (2 ^ 1074) → HasValue w false b (2 ^ 1074) → v ⊕ w ≡ round binary64 false (a + b) (2 ^ 1074)
unfolding ◌⊕◌ add
sum_is nan w a b p q = absurd p
sum_is (inf s) w a b p q = absurd p
sum_is (fin true m e) w a b p q = absurd (true≢false p.0)
sum_is (fin false m e) nan a b p q = absurd q
sum_is (fin false m e) (inf t) a b p q = absurd q
sum_is (fin false m e) (fin true n d) a b p q = absurd (true≢false q.0)
sum_is (fin false m e) (fin false n d) a b p q =
    round_same binary64 false (m * up e * down d + n * up d * down e) (down e * down d) (a + b) (2 ^ 1074) (mul-pos (down_pos e) (down_pos d)) (pow_pos 1074)
    (sum_cross (2 ^ 1074) (m * up e) (down e) (n * up d) (down d) a b p.1 q.1)

-- doubled it is exact
twice_value : (x : Float) (s : Bool) (n d : ℕ) → n < 2 ^ 53 → n * 2 ^ d ≤ 2 ^ 1573 → HasValue x s (n * 2 ^ d) (2 ^ 1074) → HasValue (x ⊕ x) s (n * 2 ^ d * 2) (2 ^ 1074)
twice_value nan s n d h l v = absurd v
twice_value (inf t) s n d h l v = absurd v
twice_value (fin t m e) s n d h l v =
    let k : n * 2 ^ d * 2 ≡ n * 2 ^ (d + 1) = mul_assoc n (2 ^ d) 2 ∙ ap (λ (z : ℕ). n * z) (sym (pow-add 2 d 1)) in
    let room : n * 2 ^ (d + 1) < 2 ^ 2098 = lt_of_le_of_lt (le_of_eq (sym k)) (lt_of_le_of_lt (mul-le-mul_right 2 l) (lit< tt)) in
    subst (λ (y : Float). HasValue y s (n * 2 ^ d * 2) (2 ^ 1074)) (sym (ap (λ (u : Bool). fin u m e ⊕ fin u m e) v.0 ∙ twice_is s m e (n * 2 ^ d) v.1))
    (round_exact binary64 s (n * 2 ^ d * 2) (2 ^ 1074) n (d + 1) (pow_pos 1074) h room (ap (λ (z : ℕ). z * 2 ^ 1074) k))

-- and its square is four times as large
square_sized : (a : ℕ) → (a ≡ 0) ⊎ ((2 ^ 563 ≤ a) × (a ≤ 2 ^ 1573)) → (a * a ≡ 0) ⊎ ((2 ^ 52 * (2 ^ 1074 * 2 ^ 1074) ≤ a * a * 2 ^ 1074) × (a * a * 2 ^ 1074 < 2 ^ 2073 * (2 ^ 1074 * 2 ^ 1074)))
square_sized a (inl e) = inl (ap (λ (z : ℕ). z * z) e)
square_sized a (inr b) =
    let lo : 2 ^ 52 * 2 ^ 1074 ≤ a * a = le_trans (lit≤ tt) (mul-le-mul b.0 b.0) in
    let hi : a * a < 2 ^ 2073 * 2 ^ 1074 = lt_of_le_of_lt (mul-le-mul b.1 b.1) (lit< tt) in
    inr (le_trans (le_of_eq (sym (mul_assoc (2 ^ 52) (2 ^ 1074) (2 ^ 1074)))) (mul-le-mul_right (2 ^ 1074) lo), lt_of_lt_of_le (mul-lt-mul_of_pos_right hi (pow_pos 1074)) (le_of_eq (mul_assoc (2 ^ 2073) (2 ^ 1074) (2 ^ 1074))))

four_times : (a : ℕ) → a * 2 * (a * 2) ≡ a * a * 4
four_times a = omega arith

most : (a : ℕ) → (a ≡ 0) ⊎ ((2 ^ 563 ≤ a) × (a ≤ 2 ^ 1573)) → a ≤ 2 ^ 1573
most a (inl e) = subst (λ (x : ℕ). x ≤ 2 ^ 1573) (sym e) (lit≤ tt)
most a (inr b) = b.1

square_four : (x : Float) → Middling x → Four 2073 (x ⊗ x) ((x ⊕ x) ⊗ (x ⊕ x))
square_four x p =
    let a = p.n * 2 ^ p.d in
    let c = 2 ^ 1074 * 2 ^ 1074 in
    let one : x ⊗ x ≡ round binary64 false (a * a) c = square_is x p.s a p.value in
    let two : (x ⊕ x) ⊗ (x ⊕ x) ≡ round binary64 false (a * a * 4) c =
    square_is (x ⊕ x) p.s (a * 2) (twice_value x p.s p.n p.d p.digits (most a p.sized) p.value) ∙ ap (λ (z : ℕ). round binary64 false z c) (four_times a) in
    subst (λ (v : Float). Four 2073 v ((x ⊕ x) ⊗ (x ⊕ x))) (sym one)
    (subst (λ (w : Float). Four 2073 (round binary64 false (a * a) c) w) (sym two) (round_four (a * a) c 2073 (mul-pos (pow_pos 1074) (pow_pos 1074)) (lit≤ tt) (square_sized a p.sized)))

-- ---- the sum of two squares
sum_sized : (j a b : ℕ) → (a ≡ 0) ⊎ ((2 ^ 52 ≤ a) × (a ≤ 2 ^ j)) → (b ≡ 0) ⊎ ((2 ^ 52 ≤ b) × (b ≤ 2 ^ j)) → (a + b ≡ 0) ⊎ ((2 ^ 52 ≤ a + b) × (a + b < 2 ^ (j + 2)))
sum_sized j a b h k =
    let p : 2 ^ (j + 2) ≡ 2 ^ j * 4 = pow-add 2 j 2 in
    let q : 0 < 2 ^ j = pow_pos j in
    go (2 ^ j) (2 ^ (j + 2)) p q h k
  where
    go : (J K : ℕ) → K ≡ J * 4 → 0 < J → (a ≡ 0) ⊎ ((2 ^ 52 ≤ a) × (a ≤ J)) → (b ≡ 0) ⊎ ((2 ^ 52 ≤ b) × (b ≤ J)) → (a + b ≡ 0) ⊎ ((2 ^ 52 ≤ a + b) × (a + b < K))
    go J K p q (inl d) (inl e) = inl (omega arith)
    go J K p q (inl d) (inr e) = inr (omega (arith, e.0, e.1))
    go J K p q (inr d) (inl e) = inr (omega (arith, d.0, d.1))
    go J K p q (inr d) (inr e) = inr (omega (arith, d.0, d.1, e.0, e.1))

four_sum : (a b : ℕ) → a * 4 + b * 4 ≡ (a + b) * 4
four_sum a b = omega arith

in_units : (a j : ℕ) → (a ≡ 0) ⊎ ((2 ^ 52 ≤ a) × (a < 2 ^ j)) → (a ≡ 0) ⊎ ((2 ^ 52 * 2 ^ 1074 ≤ a * 2 ^ 1074) × (a * 2 ^ 1074 < 2 ^ j * 2 ^ 1074))
in_units a j (inl e) = inl e
in_units a j (inr b) = inr (mul-le-mul_right (2 ^ 1074) b.0, mul-lt-mul_of_pos_right b.1 (pow_pos 1074))

sum_four : (j : ℕ) (v w v' w' : Float) → j + 2 ≤ 2095 → Four j v w → Four j v' w' → Four (j + 2) (v ⊕ v') (w ⊕ w')
sum_four j v w v' w' J p q =
    let a = p.g in
    let b = q.g in
    let one : v ⊕ v' ≡ round binary64 false (a + b) (2 ^ 1074) = sum_is v v' a b p.once q.once in
    let four : w ⊕ w' ≡ round binary64 false ((a + b) * 4) (2 ^ 1074) =
    sum_is w w' (a * 4) (b * 4) p.fourfold q.fourfold ∙ ap (λ (z : ℕ). round binary64 false z (2 ^ 1074)) (four_sum a b) in
    subst (λ (x : Float). Four (j + 2) x (w ⊕ w')) (sym one)
    (subst (λ (x : Float). Four (j + 2) (round binary64 false (a + b) (2 ^ 1074)) x) (sym four)
    (round_four (a + b) (2 ^ 1074) (j + 2) (pow_pos 1074) J (in_units (a + b) (j + 2) (sum_sized j a b p.sized q.sized))))

-- ---- the root
-- 0.5, in halves
half_value : HasValue 0·5 false 1 2
unfolding 0·5 f64 of_bits
half_value = (refl, refl)

sqrt_fits : (m : ℕ) (e : ℤ) → T (fits binary64 (sqrt (fin false (suc m) e)))
sqrt_fits m e = subst (λ (x : Float). T (fits binary64 x)) (sym (sqrt_is m e)) (round-fits binary64 false _ _)

twice_scaled : (a R H K : ℕ) → K ≡ H * 2 → a * 2 ^ 52 ≡ R * (H * H) → a * 4 * 2 ^ 52 ≡ R * (K * K)
twice_scaled a R H K e h =
    let k : R * (K * K) ≡ R * (H * 2 * (H * 2)) = ap (λ (z : ℕ). R * (z * z)) e in
    omega arith

half_cross : (q K L P : ℕ) → L ≡ K * 2 → 1 * (q * L) * P ≡ q * K * (2 * P)
half_cross q K L P e =
    let k : q * L * P ≡ q * (K * 2) * P = ap (λ (z : ℕ). q * z * P) e in
    omega arith

-- half of q * 2 ^ (k + 1) units
half_units : (q k : ℕ) → 0 < q → q < 2 ^ 53 → k ≤ 1999 → T (fits binary64 (units binary64 false q k)) → 0·5 ⊗ units binary64 false q (k + 1) ≡ units binary64 false q k
unfolding ◌⊗◌
half_units q k Q h l f =
    let more : k + 1 ≤ 2000 = omega arith in
    let less : k ≤ 2000 = omega arith in
    let x = units binary64 false q (k + 1) in
    let v : HasValue x false (q * 2 ^ (k + 1)) (2 ^ 1074) = units_val binary64 false q (k + 1) (small_enough q (k + 1) h more) in
    let room : q * 2 ^ k < 2 ^ 2098 = small_enough q k h less in
    let is : mul binary64 0·5 x ≡ round binary64 false (q * 2 ^ k) (2 ^ 1074) =
    mul_at binary64 0·5 x 1 2 (q * 2 ^ (k + 1)) (2 ^ 1074) (positive_of_value 0·5 1 2 half_value (zero-lt-suc 0)) (positive_of_value x (q * 2 ^ (k + 1)) (2 ^ 1074) v (mul-pos Q (pow_pos (k + 1)))) (zero-lt-suc 1) (pow_pos 1074) half_value v
    ∙ round_same binary64 false (1 * (q * 2 ^ (k + 1))) (2 * 2 ^ 1074) (q * 2 ^ k) (2 ^ 1074) (mul-pos (zero-lt-suc 1) (pow_pos 1074)) (pow_pos 1074) (half_cross q (2 ^ k) (2 ^ (k + 1)) (2 ^ 1074) (pow-add 2 k 1)) in
    same_value (mul binary64 0·5 x) (units binary64 false q k) (q * 2 ^ k) (mul-fits binary64 0·5 x) f
    (subst (λ (y : Float). HasValue y false (q * 2 ^ k) (2 ^ 1074)) (sym is) (round_exact binary64 false (q * 2 ^ k) (2 ^ 1074) q k (pow_pos 1074) h room refl))
    (units_val binary64 false q k room)

-- the root of a double above zero, and of four times the double
root_above : (m : ℕ) (e : ℤ) (w : Float) (g : ℕ) → T (fits binary64 (fin false (suc m) e)) → HasValue (fin false (suc m) e) false g (2 ^ 1074) → HasValue w false (g * 4) (2 ^ 1074)
    → 0·5 ⊗ sqrt w ≡ sqrt (fin false (suc m) e)
root_above m e w g f v u =
    let x = fin false (suc m) e in
    let p = parts m e f in
    let R = p.R in
    let s = p.s in
    let h = p.h in
    let q = (s + 1) / 2 in
    let same : p.a ≡ g = eq_of_mul-eq-mul_right (down e) (down_pos e) p.a g (sym p.value.1 ∙ v.1) in
    let s_lo : 2 ^ 53 ≤ s = root_ge R s p.lo p.root in
    let s_hi : s < 2 ^ 54 - 1 = root_lt R s p.hi p.root in
    let H : h ≤ 1048 = p.H in
    let K : h + 485 ≤ 1999 = omega arith in
    let q_pos : 0 < q = omega arith in
    let q_hi : q < 2 ^ 53 = omega arith in
    let next : h + 1 + 485 ≡ h + 485 + 1 = omega arith in
    let four : HasValue w false (p.a * 4) (2 ^ 1074) = subst (λ (y : ℕ). HasValue w false (y * 4) (2 ^ 1074)) (sym same) u in
    let one_is : sqrt x ≡ units binary64 false q (h + 485) = root_units R s h p.lo p.hi p.root x p.a p.a_pos p.value p.scaled in
    let two_is : sqrt w ≡ units binary64 false q (h + 485 + 1) =
    root_units R s (h + 1) p.lo p.hi p.root w (p.a * 4) (mul-pos p.a_pos (zero-lt-suc 3)) four (twice_scaled p.a R (2 ^ h) (2 ^ (h + 1)) (pow-add 2 h 1) p.scaled)
    ∙ ap (units binary64 false q) next in
    ap (λ (y : Float). 0·5 ⊗ y) two_is ∙ half_units q (h + 485) q_pos q_hi K (subst (λ (y : Float). T (fits binary64 y)) one_is (sqrt_fits m e)) ∙ sym one_is

zero_fits : T (fits binary64 0·0)
unfolding 0·0 f64 of_bits fits
zero_fits = tt

zero_is : HasValue 0·0 false 0 (2 ^ 1074)
unfolding 0·0 f64 of_bits
zero_is = (refl, refl)

zero_root : 0·5 ⊗ sqrt 0·0 ≡ sqrt 0·0
unfolding ◌⊗◌ mul sqrt 0·0 0·5 f64 of_bits
zero_root = refl

root_four : (j : ℕ) (v w : Float) → T (fits binary64 v) → T (fits binary64 w) → Four j v w → 0·5 ⊗ sqrt w ≡ sqrt v
root_four j v w f h p = go p.sized
  where
    above : (v : Float) → T (fits binary64 v) → 0 < p.g → HasValue v false p.g (2 ^ 1074) → 0·5 ⊗ sqrt w ≡ sqrt v
    above nan f l x = absurd x
    above (inf t) f l x = absurd x
    above (fin true m e) f l x = absurd (true≢false x.0)
    above (fin false zero e) f l x = absurd (no_value e p.g l x.1)
    above (fin false (suc m) e) f l x = root_above m e w p.g f x p.fourfold

    go : (p.g ≡ 0) ⊎ ((2 ^ 52 ≤ p.g) × (p.g ≤ 2 ^ j)) → 0·5 ⊗ sqrt w ≡ sqrt v
    go (inl e) =
        let a : v ≡ 0·0 = same_value v 0·0 0 f zero_fits (subst (λ (y : ℕ). HasValue v false y (2 ^ 1074)) e p.once) zero_is in
        let b : w ≡ 0·0 = same_value w 0·0 0 h zero_fits (subst (λ (y : ℕ). HasValue w false (y * 4) (2 ^ 1074)) e p.fourfold) zero_is in
        ap (λ (y : Float). 0·5 ⊗ sqrt y) b ∙ zero_root ∙ sym (ap sqrt a)
    go (inr b) = above v f (lt_of_lt_of_le (pow_pos 52) b.0) p.once

sum_fits : (x y : Float) → T (fits binary64 (x ⊕ y))
unfolding ◌⊕◌
sum_fits x y = add-fits binary64 x y

-- half of the length of the double of x y is the length of x y
pub half_root : (x y : Float) → Middling x → Middling y → 0·5 ⊗ sqrt ((x ⊕ x) ⊗ (x ⊕ x) ⊕ (y ⊕ y) ⊗ (y ⊕ y)) ≡ sqrt (x ⊗ x ⊕ y ⊗ y)
half_root x y p q =
    let a = (x ⊕ x) ⊗ (x ⊕ x) in
    let b = (y ⊕ y) ⊗ (y ⊕ y) in
    root_four 2075 (x ⊗ x ⊕ y ⊗ y) (a ⊕ b) (sum_fits (x ⊗ x) (y ⊗ y)) (sum_fits a b) (sum_four 2073 (x ⊗ x) a (y ⊗ y) b (lit≤ tt) (square_four x p) (square_four y q))
