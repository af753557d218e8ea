-- `floor x` is the largest whole number that is at most x, for a finite x. Assumes nothing.
use Rattle.std.specs.Prelude.{◌≡◌, ◌&&◌, ◌+◌, ◌-◌, ◌*◌, ◌/◌, ◌%◌, ◌^◌, ◌<◌, ◌≤◌}
use Rattle.laws.specs.Kit.{refl, sym, ◌∙◌, ap, subst, Bool, true, false, cond, ℕ, zero, suc, arith, mul-le-mul_left, mul-lt-mul_of_pos_right, eqb, ltb, leb, T, pow_pos, pow-add, ℤ, pos, negsuc, Float, binary64, fin, down, up, fits, round}
use Rattle.std.proofs.Common.{le_of_eq, lt_of_le_of_lt, zero-lt-suc, add-zero, add-mul, mul-one, mul_assoc, zero-mul, div-one, div-mul-le_self, div-lt_iff_lt-mul, ltb→lt}
use Rattle.std.specs.Float.Ieee.Fits.{down_pos, and_l, and_r}
use Rattle.std.specs.Float.Ieee.Exact.{HasValue, round_exact}
use Rattle.std.specs.Float.Ieee.Back.{round_whole}
use Rattle.definition.specs.Root.{floor}
use Rattle.rounding.proofs.Floor.{floor_eq}
use Rattle.rounding.specs.Floored.{Whole, slack}

slack_lt : (s : Bool) (d : ℕ) → 0 < d → slack s d < d
slack_lt true d p = omega arith
slack_lt false d p = p

slack_one : (s : Bool) → slack s 1 ≡ 0
slack_one true = refl
slack_one false = refl

cut : (v d : ℕ) → 0 < d → (v / d * d ≤ v) × (v < (v / d + 1) * d)
cut v d p = (div-mul-le_self v d, (div-lt_iff_lt-mul p).0 (more (v / d)))
  where
    more : (c : ℕ) → c < c + 1
    more c = omega arith

whole : (s : Bool) (n d : ℕ) → 0 < d → Whole s n d ((n + slack s d) / d)
whole false n d p = subst (λ (v : ℕ). Whole false n d (v / d)) (sym (add-zero n)) (cut n d p)
whole true n d p =
    let c = (n + (d - 1)) / d in
    let b = cut (n + (d - 1)) d p in
    let e : (c + 1) * d ≡ c * d + 1 * d = add-mul c 1 d in
    let lo : c * d ≤ n + (d - 1) = b.0 in
    let hi : n + (d - 1) < (c + 1) * d = b.1 in
    (omega arith, omega arith)

-- no larger than the number itself, where that is whole
no_larger : (n d t : ℕ) → 0 < d → t < d → (n + t) / d ≤ n
no_larger n d t p h =
    let a : n * 1 ≤ n * d = mul-le-mul_left n p in
    let e : (n + 1) * d ≡ n * d + 1 * d = add-mul n 1 d in
    let b : n + t < (n + 1) * d = omega arith in
    let c : (n + t) / d < n + 1 = (div-lt_iff_lt-mul p).1 b in
    omega arith

short : (s : Bool) (m : ℕ) (e : ℤ) → T (fits binary64 (fin s m e)) → m < 2 ^ 53
unfolding fits
short s zero e t = pow_pos 53
short s (suc m) e t =
    ltb→lt (suc m) (2 ^ 53)
    (and_r (eqb (suc m % 2) 1) (ltb (suc m) (2 ^ 53))
    (and_l (eqb (suc m % 2) 1 && ltb (suc m) (2 ^ 53)) (leb (down e) (2 ^ 1074))
    (and_l (eqb (suc m % 2) 1 && ltb (suc m) (2 ^ 53) && leb (down e) (2 ^ 1074)) (ltb (suc m * up e) (2 ^ 1024 * down e)) t)))

bounded : (s : Bool) (m k : ℕ) → T (fits binary64 (fin s m (pos k))) → m * 2 ^ k < 2 ^ 1024
unfolding fits
bounded s zero k t = subst (λ (x : ℕ). x < 2 ^ 1024) (sym (zero-mul (2 ^ k))) (pow_pos 1024)
bounded s (suc m) k t = ltb→lt (suc m * 2 ^ k) (2 ^ 1024) (and_r (eqb (suc m % 2) 1 && ltb (suc m) (2 ^ 53) && leb 1 (2 ^ 1074)) (ltb (suc m * 2 ^ k) (2 ^ 1024)) t)

-- ---- `round` changes nothing
exact : (s : Bool) (m : ℕ) (e : ℤ) → T (fits binary64 (fin s m e)) → HasValue (round binary64 s ((m * up e + slack s (down e)) / down e) 1) s ((m * up e + slack s (down e)) / down e) 1
exact s m (pos k) t =
    let e : (m * 2 ^ k + slack s 1) / 1 ≡ m * 2 ^ k = div-one (m * 2 ^ k + slack s 1) ∙ ap (λ (x : ℕ). m * 2 ^ k + x) (slack_one s) ∙ add-zero (m * 2 ^ k) in
    let j : m * 2 ^ (k + 1074) ≡ m * 2 ^ k * 2 ^ 1074 = ap (λ (x : ℕ). m * x) (pow-add 2 k 1074) ∙ sym (mul_assoc m (2 ^ k) (2 ^ 1074)) in
    subst (λ (c : ℕ). HasValue (round binary64 s c 1) s c 1) (sym e)
    (round_exact binary64 s (m * 2 ^ k) 1 m (k + 1074) (zero-lt-suc 0) (short s m (pos k) t) (lt_of_le_of_lt (le_of_eq j) (mul-lt-mul_of_pos_right (bounded s m k t) (pow_pos 1074))) (sym j ∙ sym (mul-one (m * 2 ^ (k + 1074)))))
exact s m (negsuc k) t =
    let c = (m * 1 + slack s (2 ^ suc k)) / 2 ^ suc k in
    let a : c ≤ m * 1 = no_larger (m * 1) (2 ^ suc k) (slack s (2 ^ suc k)) (pow_pos (suc k)) (slack_lt s (2 ^ suc k) (pow_pos (suc k))) in
    let b : m < 2 ^ 53 = short s m (negsuc k) t in
    let l : c ≤ 2 ^ 53 = omega arith in
    round_whole binary64 s c l

-- The floor of x is the whole number c, with x's sign (a zero keeps it too), and x is less than 1 above it.
pub floored : (s : Bool) (m : ℕ) (e : ℤ) → T (fits binary64 (fin s m e)) → (c : ℕ) × HasValue (floor (fin s m e)) s c 1 × Whole s (m * up e) (down e) c
floored s m e t =
    let c = (m * up e + slack s (down e)) / down e in
    (c, subst (λ (v : Float). HasValue v s c 1) (sym (floor_eq s m e)) (exact s m e t), whole s (m * up e) (down e) (down_pos e))
