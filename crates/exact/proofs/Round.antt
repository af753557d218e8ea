-- How far `round` moves a fraction: at most one part in 2 ^ prec of it,
use Rattle.std.specs.Prelude.{◌≡◌, ◌⊎◌, ◌+◌, ◌-◌, ◌*◌, ◌/◌, ◌%◌, ◌^◌, ◌<◌, ◌≤◌}
use Rattle.laws.specs.Kit.{sym, ◌∙◌, ap, subst, inl, inr, ℕ, suc, arith, mul-pos, mul-le-mul_left, mul-le-mul_right, pow_pos, pow-add}
use Prim.Native.Nat.{compare, Ordering}
use Rattle.std.proofs.Common.{mul_assoc, mul_right_comm, mul-one, mod-lt, div-add-mod', le-div_iff_mul-le, eq-zero-or-pos}
use Rattle.std.proofs.Math.Nat.{pow-succ'}
use lib.Ieee.{size, nearest}
use Rattle.std.specs.Float.Ieee.Digits.{size_reaches}
use Rattle.std.specs.Float.Ieee.Nearest.{closest}
use Rattle.std.specs.Float.Ieee.Order.{drop, kept}
use Rattle.laws.specs.Numbers.{Cmp, cmp}
use Rattle.exact.specs.Round.{Close, bit, rounded}

nearest_err : (q r u n : ℕ) (o : Ordering) → Cmp o (r * 2) u → q * u + r ≡ n → r < u → Close 2 (nearest q o * u) n u
nearest_err q r u n Ordering.lt c e l = omega arith
nearest_err q r u n Ordering.eq c e l = omega (arith, mul-le-mul_right u (bit q))
nearest_err q r u n Ordering.gt c e l = omega arith

closest_err : (n u : ℕ) → 0 < u → Close 2 (closest n u * u) n u
closest_err n u U = nearest_err (n / u) (n % u) u n (compare (n % u * 2) u) (cmp (n % u * 2) u) (div-add-mod' n u) (mod-lt n U)

half_unit : (p n c : ℕ) → 0 < c → Close 2 (rounded p n c * c) n (c * 2 ^ drop p n c)
half_unit p n c C =
    let k = drop p n c in
    subst (λ (x : ℕ). Close 2 x n (c * 2 ^ k)) (sym (mul_right_comm (kept p n c) (2 ^ k) c ∙ mul_assoc (kept p n c) c (2 ^ k)))
    (closest_err n (c * 2 ^ k) (mul-pos C (pow_pos k)))

reach : (z p : ℕ) → 0 < p → 0 < z - p → p - 1 + (z - p) < z
reach z p P h = omega arith

-- where digits are dropped, the last kept one is one part in 2 ^ (p - 1) of n / c
unit_small : (p n c : ℕ) → 0 < p → 0 < c → 0 < drop p n c → 2 ^ (p - 1) * (c * 2 ^ drop p n c) ≤ n
unit_small p n c P C K =
    let k = drop p n c in
    let a : 2 ^ (p - 1 + k) * c ≤ n = (le-div_iff_mul-le C).0 (size_reaches (n / c) (p - 1 + k) (reach (size (n / c)) p P K)) in
    let b : 2 ^ (p - 1 + k) * c ≡ 2 ^ (p - 1) * 2 ^ k * c = ap (λ (x : ℕ). x * c) (pow-add 2 (p - 1) k) in
    omega arith

pub twice : (p : ℕ) → 0 < p → 2 ^ p ≡ 2 * 2 ^ (p - 1)
twice p P = let e : p ≡ suc (p - 1) = omega arith in ap (λ (x : ℕ). 2 ^ x) e ∙ pow-succ' 2 (p - 1)

stretch : (H Q x n u N : ℕ) → Q ≡ 2 * H → Close 2 x n u → H * u ≤ N → Close Q x n N
stretch H Q x n u N e h k = rw e (omega (arith, mul-le-mul_left H h.0, mul-le-mul_left H h.1))

-- nothing is dropped, and it is half a unit; or it is one part in 2 ^ p
rounded_cases : (p n c : ℕ) → 0 < p → 0 < c → Close 2 (rounded p n c * c) n c ⊎ Close (2 ^ p) (rounded p n c * c) n n
rounded_cases p n c P C = elim (eq-zero-or-pos (drop p n c)) [
  | inl z ↦ inl (subst (λ (x : ℕ). Close 2 (rounded p n c * c) n x) (ap (λ (x : ℕ). c * 2 ^ x) z ∙ mul-one c) (half_unit p n c C))
  | inr k ↦ inr (stretch (2 ^ (p - 1)) (2 ^ p) (rounded p n c * c) n (c * 2 ^ drop p n c) n (twice p P) (half_unit p n c C) (unit_small p n c P C k))
]

weaken : (m a b E F : ℕ) → E ≤ F → Close m a b E → Close m a b F
weaken m a b E F h k = omega arith

pub rounded_err : (p n c : ℕ) → 0 < p → 0 < c → Close (2 ^ p) (rounded p n c * c) n (n + 2 ^ (p - 1) * c)
rounded_err p n c P C = elim (rounded_cases p n c P C) [
  | inl h ↦ stretch (2 ^ (p - 1)) (2 ^ p) (rounded p n c * c) n c (n + 2 ^ (p - 1) * c) (twice p P) h (omega arith)
  | inr h ↦ weaken (2 ^ p) (rounded p n c * c) n n (n + 2 ^ (p - 1) * c) (omega arith) h
]
