-- How `round` rounds twice the whole root of a scaled radicand, with 1 more where something is left over:
use Rattle.std.specs.Prelude.{◌≡◌, ◌⊎◌, ◌+◌, ◌-◌, ◌*◌, ◌/◌, ◌%◌, ◌^◌, ◌<◌, ◌≤◌}
use Rattle.laws.specs.Kit.{refl, sym, ◌∙◌, ap, subst, inl, inr, Bool, true, false, not, cond, ℕ, zero, suc, arith, mul-pos, mul-le-mul_right, mul-lt-mul_of_pos_right, ltb, T, pow_pos, pow-add, pow_mono, binary64, round}
use Prim.Native.Nat.{compare, Ordering}
use Rattle.std.proofs.Common.{le_antisymm, lt_of_lt_of_le, lt_of_not-le, not-le_of_lt, mul_assoc, zero-lt-suc, div-lt_iff_lt-mul, le-div_iff_mul-le, nltb→le}
use Rattle.std.proofs.Math.Nat.{mul-mul-mul_comm, eq_of_mul-eq-mul_right}
use Rattle.std.proofs.Math.Arith.{digits_div, digits_mod}
use Rattle.std.specs.Float.Ieee.{size, nearest, units}
use Rattle.std.specs.Float.Ieee.Digits.{size-lt, size-le}
use Rattle.std.specs.Float.Ieee.Fits.{round_is}
use Rattle.std.specs.Float.Ieee.Nearest.{closest, closest_same}
use Rattle.laws.specs.Isqrt.{IsRoot, scaled_root}
use Rattle.laws.specs.Numbers.{Cmp, cmp}
use Rattle.laws.specs.Bools.{at_most_one}
use Rattle.rounding.specs.Rounded.{left_over}

-- ---- what `compare` says
both : (a b : ℕ) → a ≤ b → b < a → ⊥
both a b h k = omega arith

pick_lt : (o : Ordering) (a b : ℕ) → Cmp o a b → a < b → o ≡ Ordering.lt
pick_lt Ordering.lt a b c h = refl
pick_lt Ordering.eq a b c h = absurd (both b a (omega arith) h)
pick_lt Ordering.gt a b c h = absurd (both b a (omega arith) h)

pick_gt : (o : Ordering) (a b : ℕ) → Cmp o a b → b < a → o ≡ Ordering.gt
pick_gt Ordering.lt a b c h = absurd (both a b (omega arith) h)
pick_gt Ordering.eq a b c h = absurd (both a b (omega arith) h)
pick_gt Ordering.gt a b c h = refl

-- ---- p * u + v over u, where v is below, or above, the half of u
module _ (p u v : ℕ) (l : v < u) where
  closest_is : closest (p * u + v) u ≡ nearest p (compare (v * 2) u)
  closest_is = ap (λ (x : ℕ). nearest x (compare ((p * u + v) % u * 2) u)) (digits_div p l) ∙ ap (λ (x : ℕ). nearest p (compare (x * 2) u)) (digits_mod p l)

  near_down : v * 2 < u → closest (p * u + v) u ≡ p
  near_down h = closest_is ∙ ap (nearest p) (pick_lt (compare (v * 2) u) (v * 2) u (cmp (v * 2) u) h)

  near_up : u < v * 2 → closest (p * u + v) u ≡ suc p
  near_up h = closest_is ∙ ap (nearest p) (pick_gt (compare (v * 2) u) (v * 2) u (cmp (v * 2) u) h)

-- ---- a whole root with more digits than its first
-- s is the root, and r the root of t * t times the radicand, so that r is s followed by more digits;
-- c is 1 where there is more, and 0 where r is exact
even_case : (s p t r c : ℕ) → s ≡ 2 * p → 0 < t → s * t ≤ r → r < (s + 1) * t → c ≤ 1 → closest (2 * r + c) (4 * t) ≡ p
even_case s p t r c e P lo hi C =
    let e1 : s * t ≡ 2 * p * t = ap (λ (x : ℕ). x * t) e in
    let v = 2 * r + c - 4 * (p * t) in
    let is : 2 * r + c ≡ p * (4 * t) + v = omega arith in
    let l : v < 4 * t = omega arith in
    let h : v * 2 < 4 * t = omega arith in
    ap (λ (x : ℕ). closest x (4 * t)) is ∙ near_down p (4 * t) v l h

odd_case : (s p t r c : ℕ) → s ≡ 2 * p + 1 → 0 < t → s * t ≤ r → r < (s + 1) * t → c ≤ 1 → (r ≡ s * t → c ≡ 0 → ⊥) → closest (2 * r + c) (4 * t) ≡ suc p
odd_case s p t r c e P lo hi C tie =
    let e1 : s * t ≡ (2 * p + 1) * t = ap (λ (x : ℕ). x * t) e in
    let v = 2 * r + c - 4 * (p * t) in
    let is : 2 * r + c ≡ p * (4 * t) + v = omega arith in
    let l : v < 4 * t = omega arith in
    let g : 4 * t < v * 2 = lt_of_not-le (λ (k : v * 2 ≤ 4 * t).
    let a : r ≡ s * t = omega arith in
    let b : c ≡ 0 = omega arith in
    tie a b) in
    ap (λ (x : ℕ). closest x (4 * t)) is ∙ near_up p (4 * t) v l g

-- an odd number's square is no multiple of 2 ^ 54
pub no_odd_root : (s p R : ℕ) → s ≡ 2 * p + 1 → s * s ≡ R * 2 ^ 54 → ⊥
no_odd_root s p R e h =
    let k : s * s ≡ (2 * p + 1) * (2 * p + 1) = ap (λ (x : ℕ). x * x) e in
    omega arith

exact : (n r : ℕ) → left_over n r ≡ 0 → n ≤ r * r
exact n r = go (ltb (r * r) n) (nltb→le (r * r) n)
  where
    go : (b : Bool) → (T (not b) → n ≤ r * r) → ◌≡◌ {A = ℕ} (cond b 1 0) 0 → n ≤ r * r
    go true h e = omega arith
    go false h e = h tt

no_tie : (R s p t n r : ℕ) → s ≡ 2 * p + 1 → 0 < t → n ≡ R * 2 ^ 54 * (t * t) → IsRoot n r → r ≡ s * t → left_over n r ≡ 0 → ⊥
no_tie R s p t n r e P f k a b =
    let same : n ≡ r * r = le_antisymm (exact n r b) k.0 in
    no_odd_root s p R e
    (sym (eq_of_mul-eq-mul_right (t * t) (mul-pos P P) (R * 2 ^ 54) (s * s) (sym f ∙ same ∙ ap (λ (x : ℕ). x * x) a ∙ mul-mul-mul_comm s t s t)))

pub half_up : (R s t n r : ℕ) → 0 < t → n ≡ R * 2 ^ 54 * (t * t) → IsRoot (R * 2 ^ 54) s → IsRoot n r → closest (2 * r + left_over n r) (4 * t) ≡ (s + 1) / 2
half_up R s t n r P f h k =
    let b = scaled_root (R * 2 ^ 54) s t n r P f h k in
    let p = s / 2 in
    let C : left_over n r ≤ 1 = at_most_one (ltb (r * r) n) in
    elim (parity s) [
      | inl e ↦
          let z : p ≡ (s + 1) / 2 = omega arith in
          even_case s p t r (left_over n r) e P b.0 b.1 C ∙ z
      | inr e ↦
          let z : suc p ≡ (s + 1) / 2 = omega arith in
          odd_case s p t r (left_over n r) e P b.0 b.1 C (no_tie R s p t n r e P f k) ∙ z
    ]
  where
    parity : (s : ℕ) → (s ≡ 2 * (s / 2)) ⊎ (s ≡ 2 * (s / 2) + 1)
    parity s = go (s % 2) refl
      where
        go : (m : ℕ) → s % 2 ≡ m → (s ≡ 2 * (s / 2)) ⊎ (s ≡ 2 * (s / 2) + 1)
        go zero e = inl (omega arith)
        go (suc m) e = inr (omega arith)

-- ---- how many digits a number has, and `round`
pub size_exact : (a n : ℕ) → 2 ^ a ≤ n → n < 2 ^ suc a → size n ≡ suc a
size_exact a n lo hi = le_antisymm (size-le n (suc a) hi) (lt_of_not-le (λ (g : size n ≤ a). not-le_of_lt (lt_of_lt_of_le (size-lt n) (pow_mono g)) lo))

-- n / d has 53 + k digits
digits : (n d k : ℕ) → 0 < d → 2 ^ 52 * 2 ^ k * d ≤ n → n < 2 ^ 53 * 2 ^ k * d → size (n / d) - 53 ≡ k
digits n d k p lo hi =
    let a : 2 ^ (52 + k) ≡ 2 ^ 52 * 2 ^ k = pow-add 2 52 k in
    let j : suc (52 + k) ≡ 53 + k = omega arith in
    let b : 2 ^ suc (52 + k) ≡ 2 ^ 53 * 2 ^ k = ap (λ (x : ℕ). 2 ^ x) j ∙ pow-add 2 53 k in
    let lo' : 2 ^ (52 + k) ≤ n / d = subst (λ (x : ℕ). x ≤ n / d) (sym a) ((le-div_iff_mul-le p).1 lo) in
    let hi' : n / d < 2 ^ suc (52 + k) = subst (λ (x : ℕ). n / d < x) (sym b) ((div-lt_iff_lt-mul p).1 hi) in
    let z : size (n / d) ≡ suc (52 + k) = size_exact (52 + k) (n / d) lo' hi' in
    omega arith

-- P is the weight of 1 in units, H the scale, T what a unit of the rounded result weighs in
-- the root's last digits, K that unit
module _ (v P H T K : ℕ) (e : P * (4 * T) ≡ 2 * H * K) where
  scale_le : 2 ^ 54 * T ≤ v → 2 ^ 52 * K * (2 * H) ≤ v * P
  scale_le h =
      let g : 2 ^ 54 * T * P ≤ v * P = mul-le-mul_right P h in
      omega arith

  scale_lt : 0 < P → v < 2 ^ 55 * T → v * P < 2 ^ 53 * K * (2 * H)
  scale_lt p h =
      let g : v * P < 2 ^ 55 * T * P = mul-lt-mul_of_pos_right h p in
      omega arith

  scale_eq : v * P * (4 * T) ≡ v * (2 * H * K)
  scale_eq = mul_assoc v P (4 * T) ∙ ap (λ (x : ℕ). v * x) e

one_unit : (t h k : ℕ) → t + 1075 ≡ k + h → 2 ^ 1074 * (4 * 2 ^ t) ≡ 2 * 2 ^ h * 2 ^ k
one_unit t h k e =
    let j : 1076 + t ≡ 1 + h + k = omega arith in
    sym (mul_assoc (2 ^ 1074) 4 (2 ^ t))
    ∙ sym (pow-add 2 1076 t)
    ∙ ap (λ (x : ℕ). 2 ^ x) j
    ∙ pow-add 2 (1 + h) k
    ∙ ap (λ (x : ℕ). x * 2 ^ k) (pow-add 2 1 h)

-- v / 2 ^ (h + 1), of 53 digits and the t + 2 that are rounded off, in units of 2 ^ k
pub round_root : (v t h k q : ℕ) → t + 1075 ≡ k + h → 2 ^ 54 * 2 ^ t ≤ v → v < 2 ^ 55 * 2 ^ t → closest v (4 * 2 ^ t) ≡ q → round binary64 false v (2 * 2 ^ h) ≡ units binary64 false q k
round_root v t h k q j lo hi e =
    let P = 2 ^ 1074 in
    let u = one_unit t h k j in
    let den_pos : 0 < 2 * 2 ^ h = mul-pos (zero-lt-suc 1) (pow_pos h) in
    let z : size (v * P / (2 * 2 ^ h)) - 53 ≡ k = digits (v * P) (2 * 2 ^ h) k den_pos (scale_le v P (2 ^ h) (2 ^ t) (2 ^ k) u lo) (scale_lt v P (2 ^ h) (2 ^ t) (2 ^ k) u (pow_pos 1074) hi) in
    round_is binary64 false v (2 * 2 ^ h)
    ∙ ap (λ (x : ℕ). units binary64 false (closest (v * P) (2 * 2 ^ h * 2 ^ x)) x) z
    ∙ ap (λ (x : ℕ). units binary64 false x k)
    (closest_same (v * P) (2 * 2 ^ h * 2 ^ k) v (4 * 2 ^ t) (mul-pos den_pos (pow_pos k)) (mul-pos (zero-lt-suc 3) (pow_pos t)) (scale_eq v P (2 ^ h) (2 ^ t) (2 ^ k) u) ∙ e)
