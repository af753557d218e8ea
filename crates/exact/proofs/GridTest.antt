-- The test of the grid as a program makes it, with f64 operations: 1024 times the coordinate is its own floor.
use Rattle.std.specs.Prelude.{◌≡◌, ◌&&◌, ◌||◌, ◌+◌, ◌-◌, ◌*◌, ◌/◌, ◌%◌, ◌^◌, ◌<◌, ◌≤◌}
use Rattle.laws.specs.Kit.{sym, ◌∙◌, ap, subst, Bool, true, false, cond, ℕ, zero, suc, arith, mul-le-mul_right, le_of_mul-le-mul_right, eqb, ltb, leb, lit<, lit≤, T, pow_pos, pow-add, ℤ, pos, negsuc, Float, binary64, nan, fin, inf, down, up, of_bits, fits, round, eq, mul}
use Rattle.std.specs.Bool.{beq}
use Rattle.std.proofs.Common.{mul_assoc, mul-one, lt_of_mul-lt-mul_right, mod-lt, div-add-mod', le_of_suc-le-suc, lt_of_not-le, not-le_of_lt, eqb→eq, ltb→lt}
use Rattle.std.proofs.Math.Nat.{eq_of_mul-eq-mul_right, mul-mod_left}
use Rattle.std.proofs.Math.Pow.{pow-lt}
use Rattle.std.specs.Float.{Format}
use Rattle.std.specs.Float.Ieee.{prec, emax, low, unlike}
use Rattle.std.specs.Float.Ieee.Digits.{back}
use Rattle.std.specs.Float.Ieee.Fits.{down_pos, and_l, and_r, and_i, eq→eqb}
use Rattle.std.specs.Float.Ieee.Exact.{HasValue, round_exact}
use Rattle.std.specs.Float.Ieee.Scale.{overflow}
use Rattle.definition.specs.Floats.{◌⊗◌, on_grid, f64}
use Rattle.definition.specs.Root.{floor}
use Rattle.laws.specs.Bools.{to_T, of_T, same_bool}
use Rattle.exact.specs.Near.{Within}
use Rattle.exact.specs.Values.{whole, signed, mag, Ok}
use Rattle.exact.proofs.Values.{mag_is, down_bound}
use Rattle.exact.specs.GridTest.{1024·0, is_whole_part}

-- ---- 1024 times a double, exactly
digits : (f : Format) (s : Bool) (m : ℕ) (e : ℤ) → Ok f (fin s m e) → m < 2 ^ prec f
unfolding fits
digits f s zero e o = pow_pos (prec f)
digits f s (suc m) e o =
    let a = eqb (suc m % 2) 1 in
    let b = ltb (suc m) (2 ^ prec f) in
    let c = leb (down e) (2 ^ low f) in
    let d = ltb (suc m * up e) (2 ^ suc (emax f) * down e) in
    ltb→lt (suc m) (2 ^ prec f) (and_r a b (and_l (a && b) c (and_l (a && b && c) d o)))

-- a power of two times down e
shift : (e : ℤ) → down e ≤ 2 ^ 1074 → (j : ℕ) × (up e * 1024 * 2 ^ 1074 ≡ 2 ^ j * down e)
shift (pos k) h = (k + 1084, mul_assoc (2 ^ k) 1024 (2 ^ 1074) ∙ sym (pow-add 2 k 1084) ∙ sym (mul-one (2 ^ (k + 1084))))
shift (negsuc k) h =
    let g : suc k ≤ 1074 = le_of_suc-le-suc (lt_of_not-le (λ (g : suc 1074 ≤ suc k). not-le_of_lt (pow-lt g) h)) in
    (1084 - suc k, ap (λ (x : ℕ). 2 ^ x) (sym (back 1084 (suc k) (more (suc k) g))) ∙ pow-add 2 (1084 - suc k) (suc k))
  where
    more : (k : ℕ) → k ≤ 1074 → k ≤ 1084
    more k h = omega arith

-- in units
scaled : (m u L d P G : ℕ) → 0 < d → m * u * L ≡ G * d → u * 1024 * L ≡ P * d → m * P ≡ 1024 * G
scaled m u L d P G D e f = eq_of_mul-eq-mul_right d D (m * P) (1024 * G) (omega (arith, ap (λ (z : ℕ). m * z) f, ap (λ (z : ℕ). 1024 * z) e))

few : (m P G L O : ℕ) → m * P ≡ 1024 * G → G ≤ 8 * L → 8192 * L < O → m * P < O
few m P G L O e h o = omega arith

times_exactly : (m u L d P : ℕ) → u * 1024 * L ≡ P * d → m * u * 1024 * L ≡ m * P * (d * 1)
times_exactly m u L d P e = omega (arith, ap (λ (z : ℕ). m * z) e)

one_most : (d M : ℕ) → 1 * d ≡ 1 → 1 ≤ M → d ≤ M
one_most d M e h = omega arith

down_most : (s : Bool) (m : ℕ) (e : ℤ) → Ok binary64 (fin s m e) → down e ≤ 2 ^ 1074
unfolding fits
down_most s zero (pos k) o = lit≤ tt
down_most s zero (negsuc k) o = one_most (2 ^ suc k) (2 ^ 1074) (eqb→eq (1 * 2 ^ suc k) 1 o) (lit≤ tt)
down_most s (suc m) e o = down_bound binary64 s m e o

some : (d : ℕ) → 0 < d → 0 < d * 1
some d h = omega arith

times : (s : Bool) (m : ℕ) (e : ℤ) → Ok binary64 (fin s m e) → mag binary64 (fin s m e) ≤ 8 * 2 ^ 1074 → HasValue (fin s m e ⊗ 1024·0) s (m * up e * 1024) (down e * 1)
unfolding ◌⊗◌ mul 1024·0 f64 of_bits
times s m e o h =
    let j = shift e (down_most s m e o) in
    let L = 2 ^ 1074 in
    let g = mag binary64 (fin s m e) in
    go s (round_exact binary64 s (m * up e * 1024) (down e * 1) m j.0 (some (down e) (down_pos e)) (digits binary64 s m e o)
    (few m (2 ^ j.0) g L (overflow binary64) (scaled m (up e) L (down e) (2 ^ j.0) g (down_pos e) (mag_is binary64 (fin s m e) o) j.1) h (lit< tt))
    (times_exactly m (up e) L (down e) (2 ^ j.0) j.1))
  where
    go : (s : Bool) → HasValue (round binary64 s (m * up e * 1024) (down e * 1)) s (m * up e * 1024) (down e * 1) → HasValue (round binary64 (unlike s false) (m * up e * 1024) (down e * 1)) s (m * up e * 1024) (down e * 1)
    go false v = v
    go true v = v

-- ---- its floor
-- K is v / d, cut down or up: c is what is put on before the cut
module _ (v d c K N D : ℕ) (P : 0 < d) (R : 0 < D) (cut : (K * d ≤ v + c) × (v + c < (K + 1) * d)) (rest : c < d) (value : v * D ≡ N * d) where
  cut_few : N ≤ 8192 * D → K ≤ 8192
  cut_few h =
      let a : v ≤ 8192 * d = le_of_mul-le-mul_right {k = D} (omega (arith, mul-le-mul_right d h)) R in
      let b : K < 8193 = lt_of_mul-lt-mul_right d (omega arith) in
      omega arith

  whole_cut : N % D ≡ 0 → K * d ≡ v
  whole_cut h =
      let k = N / D in
      let n : N ≡ k * D = let e = div-add-mod' N D in omega arith in
      let e : v ≡ k * d = eq_of_mul-eq-mul_right D R v (k * d) (omega (arith, ap (λ (z : ℕ). z * d) n)) in
      let a : K < k + 1 = lt_of_mul-lt-mul_right d (omega arith) in
      let b : k < K + 1 = lt_of_mul-lt-mul_right d (omega arith) in
      let s : K ≡ k = omega arith in
      ap (λ (z : ℕ). z * d) s ∙ sym e

  cut_whole : K * d ≡ v → N % D ≡ 0
  cut_whole h = let n : N ≡ K * D = eq_of_mul-eq-mul_right d P N (K * D) (omega (arith, ap (λ (z : ℕ). z * D) h)) in ap (λ (z : ℕ). z % D) n ∙ mul-mod_left K D

-- a number r that is K, against n * up g / down g of the same sign
equal_is : (r : Float) (t : Bool) (n K : ℕ) (g : ℤ) → HasValue r t K 1 → (T (eq r (fin t n g)) → K * down g ≡ n * up g) × (K * down g ≡ n * up g → T (eq r (fin t n g)))
unfolding eq
equal_is nan t n K g v = absurd v
equal_is (inf u) t n K g v = absurd v
equal_is (fin u a b) t n K g (p, q) = (
  λ h. out (a * up b) (down b) (down g) (n * up g) (down_pos b) q (eqb→eq (a * up b * down g) (n * up g * down b) (and_l (eqb (a * up b * down g) (n * up g * down b)) (beq u t || eqb (a * up b * down g) 0) h)),
  λ h. and_i (eqb (a * up b * down g) (n * up g * down b)) (beq u t || eqb (a * up b * down g) 0) (eq→eqb (back' (a * up b) (down b) (down g) (n * up g) q h)) (alike u t (eqb (a * up b * down g) 0) p),
)
  where
    out : (w b d v : ℕ) → 0 < b → w * 1 ≡ K * b → w * d ≡ v * b → K * d ≡ v
    out w b d v B e f = eq_of_mul-eq-mul_right b B (K * d) v (omega (arith, ap (λ (z : ℕ). z * d) e))

    back' : (w b d v : ℕ) → w * 1 ≡ K * b → K * d ≡ v → w * d ≡ v * b
    back' w b d v e f = omega (arith, ap (λ (z : ℕ). z * d) e, ap (λ (z : ℕ). z * b) f)

    alike : (u t c : Bool) → u ≡ t → T (beq u t || c)
    alike true true c e = tt
    alike false false c e = tt
    alike true false c e = absurd (subst T e tt)
    alike false true c e = absurd (subst T (sym e) tt)

cut_of : (v c d : ℕ) → 0 < d → ((v + c) / d * d ≤ v + c) × (v + c < ((v + c) / d + 1) * d)
cut_of v c d P = let e = div-add-mod' (v + c) d in let l = mod-lt (v + c) P in omega arith

put_on : (t : Bool) (d : ℕ) → 0 < d → cond t (d - 1) 0 < d
put_on true d P = omega arith
put_on false d P = P

floor_test : (y : Float) (s : Bool) (N D : ℕ) → 0 < D → N ≤ 8192 * D → HasValue y s N D → eq (floor y) y ≡ eqb (N % D) 0
unfolding floor
floor_test nan s N D R h v = absurd v
floor_test (inf t) s N D R h v = absurd v
floor_test (fin t n g) s N D R h (p, q) =
    let d = down g in
    let c = cond t (d - 1) 0 in
    let K = (n * up g + c) / d in
    let P = down_pos g in
    let cut = cut_of (n * up g) c d P in
    let rest = put_on t d P in
    let small = cut_few (n * up g) d c K N D P R cut rest q h in
    let r = round_exact binary64 t K 1 K 1074 (lit≤ tt) (under K small) (room K (2 ^ 1074) (overflow binary64) small (lit< tt)) (sym (mul-one (K * 2 ^ 1074))) in
    let e = equal_is (round binary64 t K 1) t n K g r in
    same_bool (eq (round binary64 t K 1) (fin t n g)) (eqb (N % D) 0)
    (λ z. of_T (eqb (N % D) 0) (eq→eqb (cut_whole (n * up g) d c K N D P R cut rest q (e.0 (to_T z)))))
    (λ z. of_T (eq (round binary64 t K 1) (fin t n g)) (e.1 (whole_cut (n * up g) d c K N D P R cut rest q (eqb→eq (N % D) 0 (to_T z)))))
  where
    under : (K : ℕ) → K ≤ 8192 → K < 9007199254740992
    under K h = omega arith

    room : (K L O : ℕ) → K ≤ 8192 → 8192 * L < O → K * L < O
    room K L O h o = omega (arith, mul-le-mul_right L h)

-- ---- the two tests are one
pub tested_so : (x : Float) → Ok binary64 x → Within (whole binary64 x) (8 * 2 ^ 1074) → is_whole_part x ≡ on_grid x
unfolding is_whole_part on_grid whole
tested_so (inf _) o w = elim o [ ]
tested_so nan o w = elim o [ ]
tested_so (fin s m e) o w =
    let g = mag binary64 (fin s m e) in
    let h = size s g (8 * 2 ^ 1074) w in
    floor_test (fin s m e ⊗ 1024·0) s (m * up e * 1024) (down e * 1) (some (down e) (down_pos e)) (most (m * up e) (2 ^ 1074) g (down e) (pow_pos 1074) h (mag_is binary64 (fin s m e) o)) (times s m e o h)
    ∙ ap (λ (d : ℕ). eqb (m * up e * 1024 % d) 0) (mul-one (down e))
  where
    size : (s : Bool) (g B : ℕ) → Within (signed s g) B → g ≤ B
    size false g B h = omega arith
    size true g B h = omega arith

    most : (v L G d : ℕ) → 0 < L → G ≤ 8 * L → v * L ≡ G * d → v * 1024 ≤ 8192 * (d * 1)
    most v L G d P h e = let a : v ≤ 8 * d = le_of_mul-le-mul_right {k = L} (omega (arith, mul-le-mul_right d h)) P in omega arith
