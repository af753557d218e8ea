-- `sqrt x` for an x that is finite and above zero, from the whole root of its significand: its value and its bits.
use Rattle.std.specs.Prelude.{◌≡◌, ◌+◌, ◌-◌, ◌*◌, ◌/◌, ◌%◌, ◌^◌, ◌<◌, ◌≤◌}
use Rattle.laws.specs.Kit.{refl, sym, ◌∙◌, ap, subst, true, false, true≢false, ℕ, zero, suc, arith, mul-pos, mul-le-mul, mul-le-mul_left, mul-le-mul_right, mul-lt-mul_of_pos_right, le_of_mul-le-mul_right, ltb, lit≤, pow_pos, pow-add, pow_mono, ℤ, pos, negsuc, Float, binary64, nan, fin, inf, down, up, of_bits, to_bits, round}
use Rattle.std.proofs.Common.{mul_assoc, mul_right_comm, mul_comm, le-mul_of_pos_right, mul-one, div-one, mul-div_cancel, le_trans, le_of_eq, lt_of_le_of_lt, lt_of_lt_of_le, lt_of_not-le, not-le_of_lt, zero-lt-suc, zero-mul}
use Rattle.std.proofs.Math.Nat.{mul-mul-mul_comm, eq_of_mul-eq-mul_right}
use Rattle.std.specs.Float.Ieee.{size, units}
use Rattle.std.specs.Float.Ieee.Fits.{down_pos, up_pos}
use Rattle.std.specs.Float.Ieee.Exact.{HasValue}
use Rattle.definition.specs.Root.{isqrt, scale, sqrt}
use Rattle.laws.specs.Isqrt.{IsRoot, lt_of_squares, four_pow, isqrt_levels, scaled_root}
use Rattle.laws.specs.Bools.{at_most_one}
use Rattle.rounding.specs.Rounded.{left_over}
use Rattle.rounding.proofs.Rounded.{half_up, round_root}
use Rattle.rounding.specs.Parts.{Significand, Leading, Evened}
use Rattle.rounding.proofs.Fields.{units_bits, field_value}
use Rattle.rounding.specs.Root.{doubled, scaled}

pub sqrt_is : (m : ℕ) (e : ℤ) → sqrt (fin false (suc m) e) ≡ round binary64 false (doubled (scaled (suc m) e)) (2 * 2 ^ scale e)
unfolding sqrt
sqrt_is m e = refl

-- ---- the scaled radicand is whole, and at least 4 ^ 54
times_pow : (k j : ℕ) → suc k ≤ j + j → 4 ^ j ≡ 2 ^ (j + j - suc k) * 2 ^ suc k
times_pow k j h =
    let e : j + j ≡ j + j - suc k + suc k = omega arith in
    four_pow j ∙ sym (pow-add 2 j j) ∙ ap (λ (x : ℕ). 2 ^ x) e ∙ pow-add 2 (j + j - suc k) (suc k)

pub scaled_exact : (m : ℕ) (e : ℤ) → scaled m e * down e ≡ m * up e * 4 ^ scale e
unfolding scale
scaled_exact m (pos k) = mul-one (m * 2 ^ k * 4 ^ 54 / 1) ∙ div-one (m * 2 ^ k * 4 ^ 54)
scaled_exact m (negsuc k) =
    let j = 54 + (k + 2) / 2 in
    let l : suc k ≤ j + j = omega arith in
    let e : m * 1 * 4 ^ j ≡ m * 1 * 2 ^ (j + j - suc k) * 2 ^ suc k = ap (λ (x : ℕ). m * 1 * x) (times_pow k j l) ∙ sym (mul_assoc (m * 1) (2 ^ (j + j - suc k)) (2 ^ suc k)) in
    ap (λ (x : ℕ). x / 2 ^ suc k * 2 ^ suc k) e ∙ ap (λ (x : ℕ). x * 2 ^ suc k) (mul-div_cancel (m * 1 * 2 ^ (j + j - suc k)) (pow_pos (suc k))) ∙ sym e

-- 4 ^ h is at least 4 ^ 54 times the denominator
scale_room : (e : ℤ) → 4 ^ 54 * down e ≤ 4 ^ scale e
unfolding scale
scale_room (pos k) = le_of_eq (mul-one (4 ^ 54))
scale_room (negsuc k) =
    let j = 54 + (k + 2) / 2 in
    let l : suc k ≤ j + j = omega arith in
    let g : 108 ≤ j + j - suc k = omega arith in
    le_trans (mul-le-mul_right (2 ^ suc k) (pow_mono g)) (le_of_eq (sym (times_pow k j l)))

pub scaled_large : (m : ℕ) (e : ℤ) → 2 ^ 108 ≤ scaled (suc m) e
scaled_large m e =
    le_of_mul-le-mul_right
    (le_trans (scale_room e)
    (le_trans (le-mul_of_pos_right (4 ^ scale e) (mul-pos (zero-lt-suc m) (up_pos e))) (le_of_eq (mul_comm (4 ^ scale e) (suc m * up e) ∙ sym (scaled_exact (suc m) e)))))
    (down_pos e)

-- ---- the radicand in the root's own digits
-- x is w / D, which is a / 2 ^ 1074, which is R * 4 ^ g / 2 ^ 1126, and n is x times 4 ^ h
module _ (w D a R g h n : ℕ) (p : 0 < D) (whole : n * D ≡ w * 4 ^ h) (v : w * 2 ^ 1074 ≡ a * D) (e : a * 2 ^ 52 ≡ R * (2 ^ g * 2 ^ g)) where
  in_units : n * 2 ^ 1074 ≡ a * 4 ^ h
  in_units =
      eq_of_mul-eq-mul_right D p (n * 2 ^ 1074) (a * 4 ^ h)
      (mul_right_comm n (2 ^ 1074) D
      ∙ ap (λ (x : ℕ). x * 2 ^ 1074) whole
      ∙ mul_right_comm w (4 ^ h) (2 ^ 1074)
      ∙ ap (λ (x : ℕ). x * 4 ^ h) v
      ∙ mul_right_comm a D (4 ^ h))

  by_squares : n * 2 ^ 1126 ≡ R * (2 ^ (g + h) * 2 ^ (g + h))
  by_squares =
      sym (mul_assoc n (2 ^ 1074) (2 ^ 52))
      ∙ ap (λ (x : ℕ). x * 2 ^ 52) in_units
      ∙ mul_right_comm a (4 ^ h) (2 ^ 52)
      ∙ ap (λ (x : ℕ). x * 4 ^ h) e
      ∙ mul_assoc R (2 ^ g * 2 ^ g) (4 ^ h)
      ∙ ap (λ (x : ℕ). R * x) (ap (λ (x : ℕ). 2 ^ g * 2 ^ g * x) (four_pow h) ∙ mul-mul-mul_comm (2 ^ g) (2 ^ g) (2 ^ h) (2 ^ h) ∙ ap (λ (x : ℕ). x * x) (sym (pow-add 2 g h)))

  -- the scale is enough for 54 digits of the root
  enough : 2 ^ 108 ≤ n → R < 2 ^ 54 → 590 ≤ g + h
  enough big l = lt_of_not-le (λ (k : g + h ≤ 589). not-le_of_lt (above k) (mul-le-mul_right (2 ^ 1126) big))
    where
      above : g + h ≤ 589 → n * 2 ^ 1126 < 2 ^ 108 * 2 ^ 1126
      above k =
          let p : 2 ^ (g + h) ≤ 2 ^ 589 = pow_mono k in
          lt_of_le_of_lt (le_of_eq by_squares) (lt_of_le_of_lt (mul-le-mul_left R (mul-le-mul p p)) (lt_of_lt_of_le (mul-lt-mul_of_pos_right l (pow_pos 1178)) (lit≤ tt)))

  in_digits : (t : ℕ) → t + 590 ≡ g + h → n ≡ R * 2 ^ 54 * (2 ^ t * 2 ^ t)
  in_digits t j =
      eq_of_mul-eq-mul_right (2 ^ 1126) (pow_pos 1126) n (R * 2 ^ 54 * (2 ^ t * 2 ^ t))
      (by_squares
      ∙ ap (λ (x : ℕ). R * (2 ^ x * 2 ^ x)) (sym j)
      ∙ ap (λ (x : ℕ). R * (x * x)) (pow-add 2 t 590)
      ∙ ap (λ (x : ℕ). R * x) (mul-mul-mul_comm (2 ^ t) (2 ^ 590) (2 ^ t) (2 ^ 590))
      ∙ ap (λ (x : ℕ). R * x) (mul_comm (2 ^ t * 2 ^ t) (2 ^ 1180) ∙ mul_right_comm (2 ^ 54) (2 ^ 1126) (2 ^ t * 2 ^ t))
      ∙ sym (mul_assoc R (2 ^ 54 * (2 ^ t * 2 ^ t)) (2 ^ 1126))
      ∙ ap (λ (x : ℕ). x * 2 ^ 1126) (sym (mul_assoc R (2 ^ 54) (2 ^ t * 2 ^ t))))

-- ---- the bounds of the root of R * 2 ^ 54
pub root_ge : (R s : ℕ) → 2 ^ 52 ≤ R → IsRoot (R * 2 ^ 54) s → 2 ^ 53 ≤ s
root_ge R s h k =
    let g : R * 2 ^ 54 < (s + 1) * (s + 1) = k.1 in
    let a : 2 ^ 53 * 2 ^ 53 < (s + 1) * (s + 1) = omega arith in
    let b : 2 ^ 53 < s + 1 = lt_of_squares (2 ^ 53) (s + 1) a in
    omega arith

pub root_lt : (R s : ℕ) → R ≤ 2 ^ 54 - 2 → IsRoot (R * 2 ^ 54) s → s < 2 ^ 54 - 1
root_lt R s h k =
    let g : s * s ≤ R * 2 ^ 54 = k.0 in
    let a : s * s < (2 ^ 54 - 1) * (2 ^ 54 - 1) = omega arith in
    lt_of_squares s (2 ^ 54 - 1) a

bounds : (s t r c : ℕ) → 2 ^ 53 ≤ s → s < 2 ^ 54 - 1 → (s * t ≤ r) × (r < (s + 1) * t) → c ≤ 1 → (2 ^ 54 * t ≤ 2 * r + c) × (2 * r + c < 2 ^ 55 * t)
bounds s t r c lo hi b C =
    let x : 2 ^ 53 * t ≤ s * t = mul-le-mul_right t lo in
    let h : s + 1 ≤ 2 ^ 54 = omega arith in
    let y : (s + 1) * t ≤ 2 ^ 54 * t = mul-le-mul_right t h in
    let p : s * t ≤ r = b.0 in
    let q : r < (s + 1) * t = b.1 in
    (omega arith, omega arith)

-- what is rounded
rounded : (R s t h k n : ℕ) → 2 ^ 52 ≤ R → R ≤ 2 ^ 54 - 2 → t + 1075 ≡ k + h → n ≡ R * 2 ^ 54 * (2 ^ t * 2 ^ t) → IsRoot (R * 2 ^ 54) s → round binary64 false (doubled n) (2 * 2 ^ h) ≡ units binary64 false ((s + 1) / 2) k
rounded R s t h k n lo hi j e i =
    let T = 2 ^ t in
    let r = isqrt (size n / 2 + 1) n in
    let is : IsRoot n r = isqrt_levels n in
    let v = bounds s T r (left_over n r) (root_ge R s lo i) (root_lt R s hi i) (scaled_root (R * 2 ^ 54) s T n r (pow_pos t) e i is) (at_most_one (ltb (r * r) n)) in
    round_root (2 * r + left_over n r) t h k ((s + 1) / 2) j v.0 v.1 (half_up R s T n r (pow_pos t) e i is)

pub no_value : (e : ℤ) (a : ℕ) → 0 < a → 0 * up e * 2 ^ 1074 ≡ a * down e → ⊥
no_value e a p h =
    let z : 0 < a * down e = mul-pos p (down_pos e) in
    let g : a * down e ≡ 0 = sym h ∙ ap (λ (x : ℕ). x * 2 ^ 1074) (zero-mul (up e)) in
    clash (a * down e) z g
  where
    clash : (y : ℕ) → 0 < y → y ≡ 0 → ⊥
    clash y p q = omega arith

-- ---- the theorem. x is a / 2 ^ 1074, which is R * 4 ^ g / 2 ^ 1126, and s is the whole root of R * 2 ^ 54
module _ (R s g : ℕ) (lo : 2 ^ 52 ≤ R) (hi : R ≤ 2 ^ 54 - 2) (k : IsRoot (R * 2 ^ 54) s) where
  pub root_units : (x : Float) (a : ℕ) → 0 < a → HasValue x false a (2 ^ 1074) → a * 2 ^ 52 ≡ R * (2 ^ g * 2 ^ g) → sqrt x ≡ units binary64 false ((s + 1) / 2) (g + 485)
  root_units nan a p v e = absurd v
  root_units (inf t) a p v e = absurd v
  root_units (fin true m d) a p v e = absurd (true≢false v.0)
  root_units (fin false zero d) a p v e = absurd (no_value d a p v.1)
  root_units (fin false (suc m) d) a p v e =
      let h = scale d in
      let n = scaled (suc m) d in
      let whole = scaled_exact (suc m) d in
      let l : R < 2 ^ 54 = omega arith in
      let b : 590 ≤ g + h = enough (suc m * up d) (down d) a R g h n (down_pos d) whole v.1 e (scaled_large m d) l in
      let t = g + h - 590 in
      let i : t + 590 ≡ g + h = omega arith in
      let j : t + 1075 ≡ g + 485 + h = omega arith in
      sqrt_is m d ∙ rounded R s t h (g + 485) n lo hi j (in_digits (suc m * up d) (down d) a R g h n (down_pos d) whole v.1 e t i) k

  pub root_bits : (x : Float) (a : ℕ) → g ≤ 1048 → 0 < a → HasValue x false a (2 ^ 1074) → a * 2 ^ 52 ≡ R * (2 ^ g * 2 ^ g) → to_bits binary64 (sqrt x) ≡ (g + 485) * 2 ^ 52 + (s + 1) / 2
  root_bits x a H p v e =
      let b : 2 ^ 53 ≤ s = root_ge R s lo k in
      let c : s < 2 ^ 54 - 1 = root_lt R s hi k in
      let q_lo : 2 ^ 52 ≤ (s + 1) / 2 = omega arith in
      let q_hi : (s + 1) / 2 < 2 ^ 53 = omega arith in
      let room : g + 485 ≤ 2000 = omega arith in
      ap (to_bits binary64) (root_units x a p v e) ∙ units_bits ((s + 1) / 2) (g + 485) q_lo q_hi room

-- ---- R from a significand m and an exponent E
-- m is shifted up by z digits, and once more where what is left of the exponent, g, is odd
twice_half : (g h : ℕ) → g / 2 ≡ h → g % 2 ≡ 0 → g ≡ h + h
twice_half g h e f = omega arith

twice_half_one : (g h : ℕ) (r : ℕ) → g / 2 ≡ h → g % 2 ≡ suc r → g ≡ 1 + (h + h)
twice_half_one g h r e f = omega arith

one_of : (g r : ℕ) → g % 2 ≡ suc r → g % 2 ≡ 1
one_of g r e = omega arith

pub evened : (m z E g R : ℕ) → z ≤ 52 → g ≡ E + 52 - z → Evened (m * 2 ^ z) g R → m * 2 ^ E * 2 ^ 52 ≡ R * (2 ^ (g / 2) * 2 ^ (g / 2))
evened m z E g R l e v =
    let j : E + 52 ≡ z + g = omega arith in
    mul_assoc m (2 ^ E) (2 ^ 52)
    ∙ ap (λ (x : ℕ). m * x) (sym (pow-add 2 E 52) ∙ ap (λ (x : ℕ). 2 ^ x) j ∙ pow-add 2 z g)
    ∙ sym (mul_assoc m (2 ^ z) (2 ^ g))
    ∙ go (m * 2 ^ z) (g % 2) refl v
  where
    go : (n r : ℕ) → g % 2 ≡ r → Evened n g R → n * 2 ^ g ≡ R * (2 ^ (g / 2) * 2 ^ (g / 2))
    go n zero e v =
        ap (λ (x : ℕ). n * 2 ^ x) (twice_half g (g / 2) refl e) ∙ ap (λ (x : ℕ). n * x) (pow-add 2 (g / 2) (g / 2)) ∙ ap (λ (x : ℕ). x * (2 ^ (g / 2) * 2 ^ (g / 2))) (sym (v.even e))
    go n (suc r) e v =
        ap (λ (x : ℕ). n * 2 ^ x) (twice_half_one g (g / 2) r refl e)
        ∙ ap (λ (x : ℕ). n * x) (pow-add 2 1 (g / 2 + g / 2) ∙ ap (λ (x : ℕ). 2 * x) (pow-add 2 (g / 2) (g / 2)))
        ∙ sym (mul_assoc n 2 (2 ^ (g / 2) * 2 ^ (g / 2)))
        ∙ ap (λ (x : ℕ). x * (2 ^ (g / 2) * 2 ^ (g / 2))) (sym (v.odd (one_of g r e)))

-- a pattern's bits in, the root's bits out
pub bits_of_root : (b m z E R s : ℕ) → 0 < b → b < 2047 * 2 ^ 52 → Significand b m → Leading m z → E ≡ b / 2 ^ 52 - 1 → Evened (m * 2 ^ z) (E + 52 - z) R → IsRoot (R * 2 ^ 54) s
    → (((E + 52 - z) / 2 + 485) * 2 ^ 52 + (s + 1) / 2 < 2047 * 2 ^ 52) × (((E + 52 - z) / 2 + 485) * 2 ^ 52 + (s + 1) / 2 ≡ to_bits binary64 (sqrt (of_bits binary64 b)))
bits_of_root b m z E R s B L sig lead x even k =
    let g = E + 52 - z in
    let RLo : 2 ^ 52 ≤ R = omega arith in
    let hi : R ≤ 2 ^ 54 - 2 = even.most in
    let H : g / 2 ≤ 1048 = omega arith in
    let s_lt : s < 2 ^ 54 - 1 = root_lt R s hi k in
    let v = subst (λ (y : ℕ). HasValue (of_bits binary64 b) false (m * 2 ^ y) (2 ^ 1074)) (sym x) (field_value b m L sig) in
    (omega arith, sym (root_bits R s (g / 2) RLo hi k (of_bits binary64 b) (m * 2 ^ E) H (mul-pos (sig.some B) (pow_pos E)) v (evened m z E g R lead.most refl even)))
