-- The definition's square root w of a double a: w * w is a to 5 parts in 10 ^ 12.
use Rattle.std.specs.Prelude.{◌≡◌, ◌+◌, ◌-◌, ◌*◌, ◌/◌, ◌^◌, ◌<◌, ◌≤◌}
use Rattle.laws.specs.Kit.{refl, sym, ◌∙◌, ap, subst, Bool, true, false, not, cond, ℕ, zero, suc, arith, dec_le, mul-pos, mul-le-mul, mul-le-mul_left, mul-le-mul_right, ltb, lit<, lit≤, T, pow_pos, pow-add, pow_mono, ℤ, pos, negsuc, Float, binary64, fin, down, up}
use Rattle.std.proofs.Common.{subst₂, add-sub_of_le, zero-lt-suc, mul-one, mul-div_cancel, le_trans, ltb→lt, nltb→le}
use Rattle.std.proofs.Math.Nat.{pow-succ', le_of_mul-le-mul_left}
use Rattle.std.specs.Float.{Format}
use Rattle.std.specs.Float.Ieee.{low, size}
use Rattle.std.specs.Float.Ieee.Fits.{down_pos, up_pos}
use Rattle.std.specs.Float.Ieee.Scale.{grid, overflow}
use Rattle.definition.specs.Root.{isqrt, scale, sqrt}
use Rattle.laws.specs.Isqrt.{IsRoot, four_pow, isqrt_levels}
use Rattle.exact.specs.Near.{Whole}
use Rattle.exact.proofs.Near.{root_le}
use Rattle.exact.specs.Parts.{billion, M, Parts}
use Rattle.exact.proofs.Parts.{MMany, MDeep, parts_put, parts_cut, parts_mul, parts_trans}
use Rattle.exact.specs.Round.{Close}
use Rattle.exact.proofs.Round.{rounded_err}
use Rattle.exact.specs.Values.{whole, Ok, mag}
use Rattle.exact.proofs.Values.{mag_is, round_got, down_bound}
use Rattle.exact.specs.Root.{Root, bit}

cut_root : (n r : ℕ) → IsRoot n r → M ≤ r → r * r < n → Parts 1 ((2 * r + 1) * (2 * r + 1)) (4 * n)
cut_root n r h l k =
    let hi : n ≤ r * r + 2 * r = omega arith in
    let lo : r * r + 1 ≤ n = omega arith in
    omega (arith, mul-le-mul_right r l, mul-le-mul_left M hi, mul-le-mul_left M lo)

full_root : (n r : ℕ) → r * r ≤ n → n ≤ r * r → Parts 1 ((2 * r + 0) * (2 * r + 0)) (4 * n)
full_root n r h k = omega (arith, mul-le-mul_left M h, mul-le-mul_left M k)

doubled : (n r : ℕ) → IsRoot n r → M ≤ r → Parts 1 ((2 * r + bit r n) * (2 * r + bit r n)) (4 * n)
doubled n r h l = go (ltb (r * r) n) (ltb→lt (r * r) n) (nltb→le (r * r) n)
  where
    go : (b : Bool) → (T b → r * r < n) → (T (not b) → n ≤ r * r) → Parts 1 ((2 * r + cond b 1 0) * (2 * r + cond b 1 0)) (4 * n)
    go true p q = cut_root n r h l (p tt)
    go false p q = full_root n r h.0 (q tt)

-- ---- rounded
-- G 2 K is near t L, and t t near 4 n: so G G is near A L
squares : (G K t n L A : ℕ) → 0 < K → n * L ≡ A * (K * K) → Parts 1 (G * (2 * K)) (t * L) → Parts 1 (t * t) (4 * n) → Parts 5 (G * G) (A * L)
squares G K t n L A P e h k =
    let m : 4 * (10 * 10) ≤ M = omega (arith, MMany) in
    let a : Parts 3 (G * G * (4 * (K * K))) (t * t * (L * L)) = subst₂ (λ (x y : ℕ). Parts 3 x y) (ring G K) (ring' t L) (parts_mul 1 1 10 (G * (2 * K)) (t * L) (G * (2 * K)) (t * L) (lit≤ tt) (lit≤ tt) m h h) in
    let b : Parts 1 (t * t * (L * L)) (A * L * (4 * (K * K))) = subst (λ (x : ℕ). Parts 1 (t * t * (L * L)) x) (ring'' n L A (K * K) e) (parts_put 1 (t * t) (4 * n) (L * L) k) in
    parts_cut 5 (G * G) (A * L) (4 * (K * K)) (four_pos (K * K) (mul-pos P P)) (parts_trans 3 1 10 (G * G * (4 * (K * K))) (t * t * (L * L)) (A * L * (4 * (K * K))) (lit≤ tt) (lit≤ tt) m a b)
  where
    ring : (g k : ℕ) → g * (2 * k) * (g * (2 * k)) ≡ g * g * (4 * (k * k))
    ring g k = omega arith

    ring' : (t l : ℕ) → t * l * (t * l) ≡ t * t * (l * l)
    ring' t l = omega arith

    ring'' : (n l a k : ℕ) → n * l ≡ a * k → 4 * n * (l * l) ≡ a * l * (4 * k)
    ring'' n l a k h = omega (arith, ap (λ (z : ℕ). 4 * (z * l)) h)

    four_pos : (k : ℕ) → 0 < k → 0 < 4 * k
    four_pos k h = omega arith

-- the half unit is small: the root of a double is far above the smallest double
rounded : (Q H G K t L : ℕ) → 1000 * M ≤ Q → 1 ≤ t → H * (2 * K) ≤ L → Close Q (G * (2 * K)) (t * L) (t * L + H * (2 * K)) → Parts 1 (G * (2 * K)) (t * L)
rounded Q H G K t L d h k c =
    let g = G * (2 * K) in
    let y = t * L in
    let l : t * L + H * (2 * K) ≤ 2 * (t * L) = omega (arith, mul-le-mul_right L h) in
    let P : 0 < Q = omega (arith, MMany) in (
      le_of_mul-le-mul_left {k = Q} (omega (arith, mul-le-mul_left M c.0, mul-le-mul_left M l, mul-le-mul_right (t * L) d)) P,
      le_of_mul-le-mul_left {k = Q} (omega (arith, mul-le-mul_left M c.1, mul-le-mul_left M l, mul-le-mul_right (t * L) d)) P,
    )

-- ---- the scale
-- 4 ^ scale makes the number whole, and at least 4 ^ 54
scale_whole : (e : ℤ) → (c : ℕ) × (4 ^ scale e ≡ c * down e) × (4 ^ 54 ≤ c)
unfolding scale
scale_whole (pos k) = (4 ^ 54, sym (mul-one (4 ^ 54)), lit≤ tt)
scale_whole (negsuc k) =
    let j = (k + 2) / 2 in
    let l : suc k ≤ j + j = omega arith in
    let e : 4 ^ j ≡ 2 ^ (j + j - suc k) * 2 ^ suc k = four_pow j ∙ sym (pow-add 2 j j) ∙ ap (λ (x : ℕ). 2 ^ x) (sym (add-sub_of_le l) ∙ swap (suc k) (j + j - suc k)) ∙ pow-add 2 (j + j - suc k) (suc k) in
    (4 ^ 54 * 2 ^ (j + j - suc k), pow-add 4 54 j ∙ ap (λ (x : ℕ). 4 ^ 54 * x) e ∙ assoc (4 ^ 54) (2 ^ (j + j - suc k)) (2 ^ suc k), grows (4 ^ 54) (2 ^ (j + j - suc k)) (pow_pos (j + j - suc k)))
  where
    swap : (a b : ℕ) → a + b ≡ b + a
    swap a b = omega arith

    assoc : (a b c : ℕ) → a * (b * c) ≡ a * b * c
    assoc a b c = omega arith

    grows : (a b : ℕ) → 0 < b → a ≤ a * b
    grows a b h = omega (arith, mul-le-mul_left a h)

exponent : (j l : ℕ) → 2 ^ j ≤ 2 ^ l → j ≤ l
exponent j l h = elim (dec_le j l) [ yes k ↦ k | no k ↦ let g : suc l ≤ j = omega arith in let p : 2 ^ suc l ≤ 2 ^ j = pow_mono g in let q = pow-succ' 2 l in absurd (omega (arith, pow_pos l)) ]

scale_small : (e : ℤ) → down e ≤ 2 ^ 1074 → scale e ≤ 591
unfolding scale
scale_small (pos k) h = lit≤ tt
scale_small (negsuc k) h = let l : suc k ≤ 1074 = exponent (suc k) 1074 h in omega arith

MRoot : M * M < 4 ^ 54
unfolding M billion
MRoot = lit< tt

long_root : (n r : ℕ) → 4 ^ 54 ≤ n → IsRoot n r → M ≤ r
long_root n r h k = elim (dec_le M r) [ yes l ↦ l | no l ↦ let g : r + 1 ≤ M = omega arith in absurd (omega (arith, mul-le-mul g g, MRoot)) ]

-- ---- the definition's root
-- n is the number times 4 ^ h, and A the number, in units
in_units : (m u d c A L K n : ℕ) → 0 < d → 4 ^ 54 ≤ c → 0 < m * u → n ≡ m * u * c → K * K ≡ c * d → m * u * L ≡ A * d → (n * L ≡ A * (K * K)) × (4 ^ 54 ≤ n)
in_units m u d c A L K n D C P e k a =
    (omega (arith, ap (λ (x : ℕ). x * L) e, ap (λ (x : ℕ). x * c) a, ap (λ (x : ℕ). A * x) k), omega (arith, mul-le-mul_left c P))

double : (x y : ℕ) → Parts 5 x y → x ≤ 2 * y
double x y h = le_of_mul-le-mul_left {k = M} (omega (arith, mul-le-mul_right y MMany)) (omega (arith, MMany))

small_root : (G A L O : ℕ) → 0 < L → Parts 5 (G * G) (A * L) → A ≤ 1048576 * L → 1073741824 * L ≤ O → G < O
small_root G A L O P h k o =
    let g : G ≤ 2048 * L = root_le G (2048 * L) (omega (arith, mul-le-mul_right L k, double (G * G) (A * L) h)) in
    omega arith

positive_root : (m : ℕ) (e : ℤ) → Ok binary64 (fin false (suc m) e) → mag binary64 (fin false (suc m) e) ≤ 1048576 * 2 ^ 1074 → Root binary64 (fin false (suc m) e) (sqrt (fin false (suc m) e))
unfolding sqrt whole
positive_root m e o small =
    let x = fin false (suc m) e in
    let h = scale e in
    let K = 2 ^ h in
    let A = mag binary64 x in
    let s = scale_whole e in
    let n = suc m * up e * 4 ^ h / down e in
    let n_is : n ≡ suc m * up e * s.0 = ap (λ (z : ℕ). suc m * up e * z / down e) s.1 ∙ ap (λ (z : ℕ). z / down e) (regroup (suc m * up e) s.0 (down e)) ∙ mul-div_cancel (suc m * up e * s.0) (down_pos e) in
    let i = in_units (suc m) (up e) (down e) s.0 A (2 ^ 1074) K n (down_pos e) s.2 (mul-pos (zero-lt-suc m) (up_pos e)) n_is (sym (four_pow h) ∙ s.1) (mag_is binary64 x o) in
    let r = isqrt (size n / 2 + 1) n in
    let w = isqrt_levels n in
    let big = long_root n r i.1 w in
    let t = 2 * r + bit r n in
    let d = doubled n r w big in
    let hs : h ≤ 591 = scale_small e (down_bound binary64 false m e o) in
    let half : 2 ^ 52 * (2 * K) ≤ 2 ^ 1074 = le_trans (subst (λ (z : ℕ). z ≤ 2 ^ 644) (pow-add 2 53 h ∙ two_of K) (pow_mono (add_le h hs))) (lit≤ tt) in
    let G = grid binary64 t (2 * K) in
    let c = rounded (2 ^ 53) (2 ^ 52) G K t (2 ^ 1074) MDeep (at_least r (bit r n) big) half (rounded_err 53 (t * 2 ^ 1074) (2 * K) (lit≤ tt) (twice_pos K (pow_pos h))) in
    let p = squares G K t n (2 ^ 1074) A (pow_pos h) i.0 c d in
    let g = round_got binary64 false t (2 * K) (small_root G A (2 ^ 1074) (overflow binary64) (pow_pos 1074) p small (lit≤ tt)) in
    (g.0, ap (λ (z : Whole). z.1) g.1, subst (λ (z : ℕ). Parts 5 (z * z) (A * 2 ^ 1074)) (sym (ap (λ (z : Whole). z.0) g.1)) p)
  where
    regroup : (a b c : ℕ) → a * (b * c) ≡ a * b * c
    regroup a b c = omega arith

    add_le : (h : ℕ) → h ≤ 591 → 53 + h ≤ 644
    add_le h l = omega arith

    two_of : (k : ℕ) → 2 ^ 53 * k ≡ 2 ^ 52 * (2 * k)
    two_of k = omega arith

    at_least : (r b : ℕ) → M ≤ r → 1 ≤ 2 * r + b
    at_least r b h = omega (arith, MMany)

    twice_pos : (k : ℕ) → 0 < k → 0 < 2 * k
    twice_pos k h = omega arith

zero_mag : (s : Bool) (e : ℤ) → Ok binary64 (fin s zero e) → mag binary64 (fin s zero e) ≡ 0
zero_mag s e o = go (mag binary64 (fin s zero e)) (down e) (up e) (2 ^ 1074) (down_pos e) (mag_is binary64 (fin s zero e) o)
  where
    go : (a d u l : ℕ) → 0 < d → zero * u * l ≡ a * d → a ≡ 0
    go a d u l D h = elim (dec_le a 0) [ yes k ↦ omega arith | no k ↦ let g : 1 ≤ a = omega arith in absurd (omega (arith, mul-le-mul_right d g)) ]

not_zero : (a u l d b : ℕ) → 0 < a → 0 < u → 0 < l → a * u * l ≡ b * d → b ≡ 0 → ⊥
not_zero a u l d b A U P h e = let p : 0 < a * u * l = mul-pos (mul-pos A U) P in let z = ap (λ (x : ℕ). x * d) e in omega arith

nothing : (a l : ℕ) → a ≡ 0 → Parts 5 (a * a) (a * l)
nothing a l e = omega (arith, ap (λ (z : ℕ). M * (z * l)) e, ap (λ (z : ℕ). M * (z * a)) e, ap (λ (z : ℕ). z * l) e)

pub root : (a : Float) → Ok binary64 a → (whole binary64 a).1 ≡ 0 → (whole binary64 a).0 ≤ 1048576 * 2 ^ 1074 → Root binary64 a (sqrt a)
unfolding sqrt whole
root (lib.Ieee.inf _) o z b = elim o [ ]
root lib.Ieee.nan o z b = elim o [ ]
root (fin true zero e) o z b = (o, zero_mag true e o, nothing 0 (2 ^ 1074) refl)
root (fin false zero e) o z b = (o, refl, nothing (mag binary64 (fin false zero e)) (2 ^ 1074) (zero_mag false e o))
root (fin true (suc m) e) o z b = absurd (not_zero (suc m) (up e) (2 ^ 1074) (down e) (mag binary64 (fin true (suc m) e)) (zero-lt-suc m) (up_pos e) (pow_pos 1074) (mag_is binary64 (fin true (suc m) e) o) z)
root (fin false (suc m) e) o z b = positive_root m e o b
