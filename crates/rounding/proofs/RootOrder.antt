-- The square root keeps the order of doubles: a root is beyond a number where that of a smaller double is,
use Rattle.std.specs.Prelude.{◌≡◌, ◌+◌, ◌*◌, ◌^◌, ◌<◌, ◌≤◌}
use Rattle.laws.specs.Kit.{refl, sym, ◌∙◌, ap, subst, Bool, true, false, cond, true≢false, false≢true, ℕ, zero, suc, arith, dec_le, mul-pos, mul-le-mul_right, mul-lt-mul_of_pos_right, le_of_mul-le-mul_right, ltb, T, lt-ltb, ltb-true, pow_pos, ℤ, Float, binary64, nan, fin, inf, down, up, fits, round, lt}
use Rattle.std.proofs.Common.{lt_of_mul-lt-mul_right, le_of_lt, lt_of_not-le, zero-mul, lt_irrefl}
use Rattle.std.specs.Float.Ieee.{units, odd, low, emax, prec}
use Rattle.std.specs.Float.Ieee.Fits.{down_pos, round_is, round-fits}
use Rattle.std.specs.Float.Ieee.Exact.{HasValue, odd_sign}
use Rattle.definition.specs.Floats.{◌≺◌}
use Rattle.definition.specs.Root.{sqrt}
use Rattle.rounding.specs.Nearest.{ulps, Nearer}
use Rattle.rounding.proofs.Near.{half_unit, nearest, ulps_exact}
use Rattle.rounding.specs.Root.{doubled, scaled}
use Rattle.rounding.proofs.Root.{sqrt_is}
use Rattle.rounding.specs.RootOrder.{Rooted, Unsigned}

-- ---- over the whole numbers; k stands for 2 ^ 1074
-- x / d below y / e, counted in units
units_le : (x y d e u v k : ℕ) → 0 < d → 0 < e → x * e < y * d → u * d ≡ x * k → v * e ≡ y * k → u ≤ v
units_le x y d e u v k D E h p q =
    let a : x * e * k ≤ y * d * k = mul-le-mul_right k (le_of_lt h) in
    let b : u * d * e ≡ x * k * e = ap (λ (z : ℕ). z * e) p in
    let c : v * e * d ≡ y * k * d = ap (λ (z : ℕ). z * d) q in
    let g : u * (d * e) ≤ v * (d * e) = omega arith in
    le_of_mul-le-mul_right g (mul-pos D E)

-- y / d is at most z / e by their units, and x / c is below the one
below_on : (x y z c d e u v k : ℕ) → 0 < d → 0 < k → u * d ≡ y * k → v * e ≡ z * k → u ≤ v → x * d < y * c → 0 < e → x * e < z * c
below_on x y z c d e u v k D K p q h l E =
    let a : u * (d * e) ≤ v * (d * e) = mul-le-mul_right (d * e) h in
    let b : u * d * e ≡ y * k * e = ap (λ (s : ℕ). s * e) p in
    let g : v * e * d ≡ z * k * d = ap (λ (s : ℕ). s * d) q in
    let f : y * e * k ≤ z * d * k = omega arith in
    let i : y * e ≤ z * d = le_of_mul-le-mul_right f K in
    let j : y * e * c ≤ z * d * c = mul-le-mul_right c i in
    let o : x * d * e < y * c * e = mul-lt-mul_of_pos_right l E in
    let r : x * e * d < z * c * d = omega arith in
    lt_of_mul-lt-mul_right d r

-- the roots r of x and s of y are the nearest ones
roots_le : (x y r s k : ℕ) → x ≤ y → (s < r → (r + s) * (r + s) < 4 * x * k) → (s < r → 4 * y * k < (s + r) * (s + r)) → r ≤ s
roots_le x y r s k h p q =
    elim (dec_le r s) [
      | yes l ↦ l
      | no l ↦
          let g : s < r = lt_of_not-le l in
          let a = p g in
          let b = q g in
          let c : x * k ≤ y * k = mul-le-mul_right k h in
          absurd (omega arith)
    ]

unsigned : (v : Float) (a c : ℕ) → HasValue v false a c → Unsigned v
unsigned nan a c h = tt
unsigned (inf s) a c h = tt
unsigned (fin true m e) a c h = absurd (true≢false h.0)
unsigned (fin false m e) a c h = tt

units_unsigned : (q k : ℕ) → Unsigned (units binary64 false q k)
unfolding units
units_unsigned q k = go (ltb (q * 2 ^ k) (2 ^ (low binary64 + suc (emax binary64))))
  where
    go : (b : Bool) → Unsigned (cond b (odd (suc (prec binary64)) false q k (low binary64)) (inf false))
    go true = unsigned (odd (suc (prec binary64)) false q k (low binary64)) (q * 2 ^ k) (2 ^ low binary64) (odd_sign (suc (prec binary64)) false q k (low binary64))
    go false = tt

round_unsigned : (a b : ℕ) → Unsigned (round binary64 false a b)
round_unsigned a b = subst Unsigned (sym (round_is binary64 false a b)) (units_unsigned _ _)

rooted : (m : ℕ) (e : ℤ) → T (fits binary64 (fin false (suc m) e)) → Rooted (fin false (suc m) e)
unfolding ulps
rooted m e f = go (sqrt (fin false (suc m) e)) refl
  where
    some_units : 0 < ulps (sqrt (fin false (suc m) e))
    some_units =
        let h = half_unit m e f in
        let q : 0 < h.q = omega (arith, h.lead) in
        subst (λ (z : ℕ). 0 < z) (sym h.is) (mul-pos q (pow_pos h.k))

    bare : Unsigned (sqrt (fin false (suc m) e))
    bare = subst Unsigned (sym (sqrt_is m e)) (round_unsigned (doubled (scaled (suc m) e)) _)

    fit_root : T (fits binary64 (sqrt (fin false (suc m) e)))
    fit_root = subst (λ (v : Float). T (fits binary64 v)) (sym (sqrt_is m e)) (round-fits binary64 false (doubled (scaled (suc m) e)) _)

    go : (v : Float) → sqrt (fin false (suc m) e) ≡ v → Rooted (fin false (suc m) e)
    go nan z = absurd (lt_irrefl 0 (subst (λ (y : Float). 0 < ulps y) z some_units))
    go (inf s) z = absurd (lt_irrefl 0 (subst (λ (y : Float). 0 < ulps y) z some_units))
    go (fin true n d) z = absurd (subst Unsigned z bare)
    go (fin false n d) z = record { n = n; d = d; is = z; fit = subst (λ (y : Float). T (fits binary64 y)) z fit_root }

-- ---- the order
module _ (m : ℕ) (e : ℤ) (n : ℕ) (d : ℤ) (f : T (fits binary64 (fin false (suc m) e))) (g : T (fits binary64 (fin false (suc n) d))) where
  ulps_le : suc m * up e * down d < suc n * up d * down e → ulps (fin false (suc m) e) ≤ ulps (fin false (suc n) d)
  ulps_le h =
      units_le (suc m * up e) (suc n * up d) (down e) (down d) (ulps (fin false (suc m) e)) (ulps (fin false (suc n) d)) (2 ^ 1074) (down_pos e) (down_pos d) h (ulps_exact (suc m) e f) (ulps_exact (suc n) d g)

  sqrt_le : ulps (fin false (suc m) e) ≤ ulps (fin false (suc n) d) → ulps (sqrt (fin false (suc m) e)) ≤ ulps (sqrt (fin false (suc n) d))
  sqrt_le h =
      let x = fin false (suc m) e in
      let y = fin false (suc n) d in
      let a = rooted m e f in
      let b = rooted n d g in
      let p : Nearer x (sqrt x) (sqrt y) = subst (Nearer x (sqrt x)) (sym b.is) (nearest m e b.n b.d f b.fit) in
      let q : Nearer y (sqrt y) (sqrt x) = subst (Nearer y (sqrt y)) (sym a.is) (nearest n d a.n a.d g a.fit) in
      roots_le (ulps x) (ulps y) (ulps (sqrt x)) (ulps (sqrt y)) (2 ^ 1074) h p.below q.above

-- what has a sign is below a double above zero
minus_below : (m : ℕ) (e : ℤ) (n : ℕ) (d : ℤ) → T (fits binary64 (fin false n d)) → 0 < ulps (fin false n d) → lt (fin true m e) (fin false n d) ≡ true
unfolding lt
minus_below m e n d g o = lt-ltb 0 (m * up e * down d + n * up d * down e) (some (n * up d) refl)
  where
    some : (y : ℕ) → n * up d ≡ y → 0 < m * up e * down d + n * up d * down e
    some zero z =
        let a : ulps (fin false n d) * down d ≡ zero * 2 ^ 1074 = ulps_exact n d g ∙ ap (λ (y : ℕ). y * 2 ^ 1074) z in
        let b : 0 < ulps (fin false n d) * down d = mul-pos o (down_pos d) in
        absurd (lt_irrefl 0 (subst (λ (y : ℕ). 0 < y) (a ∙ zero-mul (2 ^ 1074)) b))
    some (suc y) z =
        let a : 0 < suc y * down e = mul-pos (omega arith) (down_pos e) in
        let b : 0 < n * up d * down e = subst (λ (i : ℕ). 0 < i * down e) (sym z) a in
        omega arith

-- what is below a double without a sign is below a greater one
less_on : (h : Float) (n : ℕ) (d : ℤ) (n' : ℕ) (d' : ℤ) → T (fits binary64 (fin false n d)) → T (fits binary64 (fin false n' d')) → 0 < ulps (fin false n' d')
    → ulps (fin false n d) ≤ ulps (fin false n' d') → lt h (fin false n d) ≡ true → lt h (fin false n' d') ≡ true
unfolding lt
less_on nan n d n' d' f g o l h = absurd (false≢true h)
less_on (inf s) n d n' d' f g o l h = h
less_on (fin true m e) n d n' d' f g o l h = minus_below m e n' d' g o
less_on (fin false m e) n d n' d' f g o l h =
    lt-ltb (m * up e * down d') (n' * up d' * down e)
    (below_on (m * up e) (n * up d) (n' * up d') (down e) (down d) (down d') (ulps (fin false n d)) (ulps (fin false n' d')) (2 ^ 1074) (down_pos d) (pow_pos 1074) (ulps_exact n d f) (ulps_exact n' d' g) l
    (ltb-true (m * up e * down d) (n * up d * down e) h) (down_pos d'))

endless_root : sqrt (inf false) ≡ inf false
unfolding sqrt
endless_root = refl

-- the root of a double above zero has units
root_units : (n : ℕ) (d : ℤ) → T (fits binary64 (fin false (suc n) d)) → 0 < ulps (sqrt (fin false (suc n) d))
root_units n d g =
    let t = half_unit n d g in
    let q : 0 < t.q = omega (arith, t.lead) in
    subst (λ (i : ℕ). 0 < i) (sym t.is) (mul-pos q (pow_pos t.k))

-- h is below the root of a number above zero, so below that of a greater one
far_fin : (h : Float) (m : ℕ) (e : ℤ) (z : Float) → T (fits binary64 (fin false (suc m) e)) → T (fits binary64 z) → lt h (sqrt (fin false (suc m) e)) ≡ true → lt (fin false (suc m) e) z ≡ true
    → lt h (sqrt z) ≡ true
unfolding lt
far_fin h m e nan f g k l = absurd (false≢true l)
far_fin h m e (inf true) f g k l = absurd (false≢true l)
far_fin h m e (inf false) f g k l = subst (λ (y : Float). lt h y ≡ true) (sym endless_root) (go h (subst (λ (y : Float). lt h y ≡ true) (rooted m e f).is k))
  where
    go : (a : Float) → lt a (fin false (rooted m e f).n (rooted m e f).d) ≡ true → lt a (inf false) ≡ true
    go nan q = absurd (false≢true q)
    go (inf s) q = rw q
    go (fin s i j) q = refl
far_fin h m e (fin true n d) f g k l = absurd (false≢true l)
far_fin h m e (fin false zero d) f g k l =
    let a = ltb-true (suc m * up e * down d) (zero * up d * down e) l in
    absurd (omega (arith, a))
far_fin h m e (fin false (suc n) d) f g k l =
    let a = rooted m e f in
    let b = rooted n d g in
    let u : ulps (sqrt (fin false (suc m) e)) ≤ ulps (sqrt (fin false (suc n) d)) = sqrt_le m e n d f g (ulps_le m e n d f g (ltb-true (suc m * up e * down d) (suc n * up d * down e) l)) in
    let o = root_units n d g in
    subst (λ (y : Float). lt h y ≡ true) (sym b.is)
    (less_on h a.n a.d b.n b.d a.fit b.fit (subst (λ (y : Float). 0 < ulps y) b.is o) (subst (λ (y : Float). ulps y ≤ ulps (fin false b.n b.d)) a.is (subst (λ (y : Float). ulps (sqrt (fin false (suc m) e)) ≤ ulps y) b.is u))
    (subst (λ (y : Float). lt h y ≡ true) a.is k))

no_number : (h : Float) → lt h nan ≡ true → ⊥
unfolding lt
no_number nan k = false≢true k
no_number (inf s) k = false≢true k
no_number (fin s m e) k = false≢true k

-- h is below a zero, so below the root of a number above it
far_zero : (h : Float) (s : Bool) (e : ℤ) (z : Float) → T (fits binary64 z) → lt h (fin s zero e) ≡ true → lt (fin s zero e) z ≡ true → lt h (sqrt z) ≡ true
unfolding lt
far_zero h s e nan g k l = absurd (false≢true l)
far_zero h s e (inf true) g k l = absurd (false≢true l)
far_zero h s e (inf false) g k l = subst (λ (y : Float). lt h y ≡ true) (sym endless_root) (go h k)
  where
    go : (a : Float) → lt a (fin s zero e) ≡ true → lt a (inf false) ≡ true
    go nan q = absurd (false≢true q)
    go (inf t) q = rw q
    go (fin t i j) q = refl
far_zero h false e (fin true n d) g k l = absurd (false≢true l)
far_zero h true e (fin true n d) g k l = let a = ltb-true (n * up d * down e) (zero * up e * down d) l in absurd (omega (arith, a))
far_zero h false e (fin false zero d) g k l = let a = ltb-true (zero * up e * down d) (zero * up d * down e) l in absurd (omega (arith, a))
far_zero h true e (fin false zero d) g k l = let a = ltb-true 0 (zero * up e * down d + zero * up d * down e) l in absurd (omega (arith, a))
far_zero h s e (fin false (suc n) d) g k l = subst (λ (y : Float). lt h y ≡ true) (sym r.is) (go h s k)
  where
    r : Rooted (fin false (suc n) d)
    r = rooted n d g

    go : (a : Float) (t : Bool) → lt a (fin t zero e) ≡ true → lt a (fin false r.n r.d) ≡ true
    go nan t q = absurd (false≢true q)
    go (inf u) t q = q
    go (fin true i j) t q = minus_below i j r.n r.d r.fit (subst (λ (y : Float). 0 < ulps y) r.is (root_units n d g))
    go (fin false i j) true q = absurd (false≢true q)
    go (fin false i j) false q = let a = ltb-true (i * up j * down e) (zero * up e * down j) q in absurd (omega (arith, a))

-- a root is beyond h where that of a smaller double is
pub root_beyond : (h x z : Float) → fits binary64 x ≡ true → fits binary64 z ≡ true → (h ≺ sqrt x) ≡ true → (x ≺ z) ≡ true → (h ≺ sqrt z) ≡ true
unfolding ◌≺◌ lt sqrt
root_beyond h nan z f g k l = absurd (false≢true l)
root_beyond h (inf true) z f g k l = absurd (no_number h k)
root_beyond h (inf false) z f g k l = endless z l
  where
    endless : (y : Float) → lt (inf false) y ≡ true → lt h (sqrt z) ≡ true
    endless nan q = absurd (false≢true q)
    endless (inf s) q = absurd (false≢true q)
    endless (fin s i j) q = absurd (false≢true q)
root_beyond h (fin s zero e) z f g k l = far_zero h s e z (subst T (sym g) tt) k l
root_beyond h (fin true (suc m) e) z f g k l = absurd (no_number h k)
root_beyond h (fin false (suc m) e) z f g k l = far_fin h m e z (subst T (sym f) tt) (subst T (sym g) tt) k l

-- a root is not beyond h where that of a greater double is not
pub root_within : (h x z : Float) → fits binary64 x ≡ true → fits binary64 z ≡ true → (h ≺ sqrt x) ≡ false → (z ≺ x) ≡ true → (h ≺ sqrt z) ≡ false
root_within h x z f g k l = go (h ≺ sqrt z) refl
  where
    go : (b : Bool) → (h ≺ sqrt z) ≡ b → (h ≺ sqrt z) ≡ false
    go true e = absurd (false≢true (sym k ∙ root_beyond h z x g f e l))
    go false e = e
