-- `isqrt k n` is the whole root of an n below 4 ^ k, and squares keep the order. Assumes nothing.
use Rattle.std.specs.Prelude.{◌≡◌, ◌+◌, ◌*◌, ◌/◌, ◌^◌, ◌<◌, ◌≤◌}
use Rattle.laws.specs.Kit.{sym, ◌∙◌, ap, subst, Bool, true, false, not, cond, ℕ, zero, suc, arith, mul-pos, mul-le-mul, mul-le-mul_right, mul-lt-mul_of_pos_right, leb, T, pow-add, pow_mono}
use Rattle.std.proofs.Common.{zero-le, pow-suc, lt_of_not-le, not-le_of_lt, zero-lt-suc, lt_of_le_of_lt, lt_of_lt_of_le, le_of_eq, div-lt_iff_lt-mul, leb→le}
use Rattle.std.proofs.Math.Nat.{mul-mul-mul_comm}
use Rattle.std.proofs.Math.Dec.{nleb→lt}
use Rattle.std.specs.Float.Ieee.{size}
use Rattle.std.specs.Float.Ieee.Digits.{size-lt}
use Rattle.definition.specs.Root.{isqrt}

-- r is the whole root of n
abbrev pub IsRoot : ℕ → ℕ → Type 0
IsRoot n r = (r * r ≤ n) × (n < (r + 1) * (r + 1))

-- ---- squares
pub sq_suc : (a : ℕ) → (a + 1) * (a + 1) ≡ a * a + 2 * a + 1
sq_suc a = omega arith

pub sq_lt : (a b : ℕ) → a < b → a * a < b * b
sq_lt a b h =
    let g : a + 1 ≤ b = omega arith in
    let k : (a + 1) * (a + 1) ≤ b * b = mul-le-mul g g in
    omega arith

pub lt_of_squares : (a b : ℕ) → a * a < b * b → a < b
lt_of_squares a b h = lt_of_not-le (λ (g : b ≤ a). not-le_of_lt h (mul-le-mul g g))

-- 4 ^ h, as the square that it is
pub four_pow : (h : ℕ) → 4 ^ h ≡ 2 ^ h * 2 ^ h
four_pow zero = omega arith
four_pow (suc h) =
    let a : 4 ^ suc h ≡ 4 ^ h * 4 = pow-suc 4 h in
    let b : 2 ^ suc h ≡ 2 ^ h * 2 = pow-suc 2 h in
    let c : 4 ^ h ≡ 2 ^ h * 2 ^ h = four_pow h in
    let d : 2 ^ suc h * 2 ^ suc h ≡ 2 ^ h * 2 * (2 ^ h * 2) = ap (λ (x : ℕ). x * x) b in
    omega arith

-- ---- the definition's root
-- the root of n, from that of n / 4
double_root : (n a : ℕ) → IsRoot (n / 4) a → (2 * a * (2 * a) ≤ n) × (n < (2 * a + 2) * (2 * a + 2))
double_root n a h =
    let lo : a * a ≤ n / 4 = h.0 in
    let hi : n / 4 < (a + 1) * (a + 1) = h.1 in
    (omega arith, omega arith)

one_of : (n r : ℕ) (b : Bool) → (T b → suc r * suc r ≤ n) → (T (not b) → n < suc r * suc r) → (r * r ≤ n) × (n < (r + 2) * (r + 2)) → IsRoot n (cond b (suc r) r)
one_of n r true p q d =
    let h : suc r * suc r ≤ n = p tt in
    let g : n < (r + 2) * (r + 2) = d.1 in
    (h, omega arith)
one_of n r false p q d =
    let h : n < suc r * suc r = q tt in
    (d.0, omega arith)

pub isqrt_root : (k n : ℕ) → n < 4 ^ k → IsRoot n (isqrt k n)
unfolding isqrt
isqrt_root zero n h = (zero-le, h)
isqrt_root (suc k) n h =
    let r = 2 * isqrt k (n / 4) in
    one_of n r (leb (suc r * suc r) n) (leb→le (suc r * suc r) n) (nleb→lt (suc r * suc r) n)
    (double_root n (isqrt k (n / 4)) (isqrt_root k (n / 4) ((div-lt_iff_lt-mul (zero-lt-suc 3)).1 (subst (λ (x : ℕ). n < x) (pow-suc 4 k) h))))

-- half as many levels as n has digits, and one more, are enough
pub isqrt_levels : (n : ℕ) → IsRoot n (isqrt (size n / 2 + 1) n)
isqrt_levels n =
    let k = size n / 2 + 1 in
    let l : size n ≤ k + k = omega arith in
    isqrt_root k n (lt_of_lt_of_le (size-lt n) (lt_pow k (pow_mono l)))
  where
    lt_pow : (k : ℕ) → 2 ^ size n ≤ 2 ^ (k + k) → 2 ^ size n ≤ 4 ^ k
    lt_pow k h = subst (λ (x : ℕ). 2 ^ size n ≤ x) (pow-add 2 k k ∙ sym (four_pow k)) h

-- the root of q, from that of q times the square of t
pub scaled_root : (q s t n r : ℕ) → 0 < t → n ≡ q * (t * t) → IsRoot q s → IsRoot n r → (s * t ≤ r) × (r < (s + 1) * t)
scaled_root q s t n r p e h k =
    let lo : s * t * (s * t) < (r + 1) * (r + 1) =
    lt_of_le_of_lt (le_of_eq (mul-mul-mul_comm s t s t)) (lt_of_le_of_lt (mul-le-mul_right (t * t) h.0) (subst (λ (x : ℕ). x < (r + 1) * (r + 1)) e k.1)) in
    let hi : r * r < (s + 1) * t * ((s + 1) * t) =
    lt_of_lt_of_le (lt_of_le_of_lt (subst (λ (x : ℕ). r * r ≤ x) e k.0) (mul-lt-mul_of_pos_right h.1 (mul-pos p p))) (le_of_eq (sym (mul-mul-mul_comm (s + 1) t (s + 1) t))) in
    let a : s * t < r + 1 = lt_of_squares (s * t) (r + 1) lo in
    (omega arith, lt_of_squares r ((s + 1) * t) hi)
