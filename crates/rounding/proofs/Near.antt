-- `sqrt x` is within half a unit of the root of x, and every other double is further away,
use Rattle.std.specs.Prelude.{◌≡◌, ◌⊎◌, ◌+◌, ◌-◌, ◌*◌, ◌/◌, ◌%◌, ◌^◌, ◌<◌, ◌≤◌}
use Rattle.laws.specs.Kit.{refl, sym, ◌∙◌, ap, subst, inl, inr, Bool, false, ℕ, zero, suc, arith, dec_le, mul-pos, mul-le-mul, mul-le-mul_right, mul-lt-mul_of_pos_right, T, pow_pos, pow-add, pow_mono, ℤ, Float, binary64, nan, fin, inf, down, up, to_bits, fits}
use Rattle.std.proofs.Common.{subst₂, le_trans, le_of_eq, lt_of_lt_of_le, lt_of_le_of_lt, mul_assoc, mul_comm, lt_of_mul-lt-mul_right, mul-div_cancel, add-mul, zero-mul, lt_of_not-le}
use Rattle.std.proofs.Math.Nat.{mul-mul-mul_comm, zero-div}
use Rattle.std.proofs.Math.Arith.{lt_of_le-ne}
use Rattle.std.specs.Int.Count.{count_leading_zeros}
use Rattle.std.specs.Float.Ieee.{units}
use Rattle.std.specs.Float.Ieee.Fits.{down_pos}
use Rattle.std.specs.Float.Ieee.Bits.{of_bits-to_bits}
use Rattle.std.specs.Float.Ieee.Exact.{HasValue, units_val}
use Rattle.definition.specs.Root.{isqrt, sqrt}
use Rattle.laws.specs.Isqrt.{IsRoot, sq_lt, isqrt_root}
use Rattle.rounding.specs.Nearest.{ulps, Nearer, HalfUnit}
use Rattle.rounding.specs.Parts.{Leading, Evened}
use Rattle.rounding.proofs.Shift.{leading}
use Rattle.rounding.proofs.Rounded.{no_odd_root}
use Rattle.rounding.proofs.Fields.{sig_of, field_value, bits_lt, bits_pos}
use Rattle.rounding.proofs.Root.{root_units, root_ge, root_lt, evened}
use Rattle.rounding.specs.Near.{Parts, Within}

pub ulps_of : (x : Float) (a : ℕ) → HasValue x false a (2 ^ 1074) → ulps x ≡ a
unfolding ulps
ulps_of nan a h = absurd h
ulps_of (inf s) a h = absurd h
ulps_of (fin s m e) a h = ap (λ (y : ℕ). y / down e) h.1 ∙ mul-div_cancel a (down_pos e)

-- ---- a finite double above zero, taken apart: it is m * 2 ^ d units
pub digits_of : (m : ℕ) (e : ℤ) → T (fits binary64 (fin false (suc m) e))
    → (n : ℕ) × (d : ℕ) × (0 < n) × (n < 2 ^ 53) × (d ≤ 2045) × HasValue (fin false (suc m) e) false (n * 2 ^ d) (2 ^ 1074)
digits_of m e f =
    let x = fin false (suc m) e in
    let b = to_bits binary64 x in
    let l : b < 2047 * 2 ^ 52 = bits_lt m e f in
    let s = sig_of b in
    (s.0, b / 2 ^ 52 - 1, s.1.some (bits_pos m e f), s.1.short, omega arith, subst (λ (v : Float). HasValue v false (s.0 * 2 ^ (b / 2 ^ 52 - 1)) (2 ^ 1074)) (of_bits-to_bits binary64 x f) (field_value b s.0 l s.1))

even_of : (n g : ℕ) → n < 2 ^ 53 → (R : ℕ) × Evened n g R
even_of n g l = go (g % 2) refl
  where
    go : (r : ℕ) → g % 2 ≡ r → (R : ℕ) × Evened n g R
    go zero e = (n, record { even = λ _. refl; odd = λ k. omega arith; least = omega arith; most = omega arith })
    go (suc r) e = (n * 2, record { even = λ k. omega arith; odd = λ _. refl; least = omega arith; most = omega arith })

pub parts : (m : ℕ) (e : ℤ) → T (fits binary64 (fin false (suc m) e)) → Parts (fin false (suc m) e)
parts m e f =
    let p = digits_of m e f in
    let n = p.0 in
    let d = p.1 in
    let d_le : d ≤ 2045 = p.4 in
    let z = count_leading_zeros 64 n - 11 in
    let l : Leading n z = (leading n p.2 p.3).1 in
    let g = d + 52 - z in
    let r = even_of (n * 2 ^ z) g l.digits in
    let R = r.0 in
    let v : Evened (n * 2 ^ z) g R = r.1 in
    let fit : R * 2 ^ 54 < 4 ^ 54 = omega arith in
    record {
      a = n * 2 ^ d;
      R = R;
      s = isqrt 54 (R * 2 ^ 54);
      h = g / 2;
      a_pos = mul-pos p.2 (pow_pos d);
      value = p.5;
      lo = omega arith;
      hi = v.most;
      H = omega arith;
      root = isqrt_root 54 (R * 2 ^ 54) fit;
      scaled = evened n z d g R l.most refl v;
    }

-- ---- the root against its neighbours
-- 2 q - 1 is below the root, and 2 q + 1 above it, for q = (s + 1) / 2
under : (R s : ℕ) → 2 ^ 53 ≤ s → IsRoot (R * 2 ^ 54) s → (2 * ((s + 1) / 2) - 1) * (2 * ((s + 1) / 2) - 1) < R * 2 ^ 54
under R s l k = go (s % 2) refl
  where
    go : (r : ℕ) → s % 2 ≡ r → (2 * ((s + 1) / 2) - 1) * (2 * ((s + 1) / 2) - 1) < R * 2 ^ 54
    go zero e =
        let h : 2 * ((s + 1) / 2) - 1 < s = omega arith in
        lt_of_lt_of_le (sq_lt (2 * ((s + 1) / 2) - 1) s h) k.0
    go (suc r) e =
        let h : 2 * ((s + 1) / 2) - 1 ≡ s = omega arith in
        let o : s ≡ 2 * (s / 2) + 1 = omega arith in
        subst (λ (y : ℕ). y * y < R * 2 ^ 54) (sym h) (lt_of_le-ne k.0 (no_odd_root s (s / 2) R o))

over : (R s : ℕ) → IsRoot (R * 2 ^ 54) s → R * 2 ^ 54 < (2 * ((s + 1) / 2) + 1) * (2 * ((s + 1) / 2) + 1)
over R s k =
    let h : s + 1 ≤ 2 * ((s + 1) / 2) + 1 = omega arith in
    lt_of_lt_of_le k.1 (mul-le-mul h h)

edge : (R s : ℕ) → 2 ^ 53 ≤ s → IsRoot (R * 2 ^ 54) s → (s + 1) / 2 ≡ 2 ^ 52 → 2 * ((s + 1) / 2) * (2 * ((s + 1) / 2)) ≤ R * 2 ^ 54
edge R s l k e =
    let h : 2 * ((s + 1) / 2) ≤ s = omega arith in
    le_trans (mul-le-mul h h) k.0

-- 4 * x, in 2 ^ -2148, by the unit's square
four_x : (a R h : ℕ) → a * 2 ^ 52 ≡ R * (2 ^ h * 2 ^ h) → 4 * a * 2 ^ 1074 ≡ R * 2 ^ 54 * (2 ^ (h + 485) * 2 ^ (h + 485))
four_x a R h e =
    let t : 2 ^ (h + 485) * 2 ^ (h + 485) ≡ 2 ^ h * 2 ^ h * 2 ^ 970 = ap (λ (y : ℕ). y * y) (pow-add 2 h 485) ∙ mul-mul-mul_comm (2 ^ h) (2 ^ 485) (2 ^ h) (2 ^ 485) in
    ap (λ (y : ℕ). y * 2 ^ 1074) (mul_comm 4 a)
    ∙ mul_assoc a 4 (2 ^ 1074)
    ∙ sym (mul_assoc a (2 ^ 52) (2 ^ 1024))
    ∙ ap (λ (y : ℕ). y * 2 ^ 1024) e
    ∙ sym (mul-mul-mul_comm R (2 ^ 54) (2 ^ h * 2 ^ h) (2 ^ 970))
    ∙ ap (λ (y : ℕ). R * 2 ^ 54 * y) (sym t)

module _ (c N K X : ℕ) (P : 0 < K) (e : X ≡ N * (K * K)) where
  square_below : c * c < N → c * K * (c * K) < X
  square_below h = subst (λ (y : ℕ). c * K * (c * K) < y) (sym e) (lt_of_le_of_lt (le_of_eq (mul-mul-mul_comm c K c K)) (mul-lt-mul_of_pos_right h (mul-pos P P)))

  square_most : c * c ≤ N → c * K * (c * K) ≤ X
  square_most h = subst (λ (y : ℕ). c * K * (c * K) ≤ y) (sym e) (le_trans (le_of_eq (mul-mul-mul_comm c K c K)) (mul-le-mul_right (K * K) h))

  square_above : N < c * c → X < c * K * (c * K)
  square_above h = subst (λ (y : ℕ). y < c * K * (c * K)) (sym e) (lt_of_lt_of_le (mul-lt-mul_of_pos_right h (mul-pos P P)) (le_of_eq (sym (mul-mul-mul_comm c K c K))))

pub small_enough : (q k : ℕ) → q < 2 ^ 53 → k ≤ 2000 → q * 2 ^ k < 2 ^ 2098
small_enough q k h l =
    let r : 53 + k ≤ 2098 = omega arith in
    lt_of_lt_of_le (mul-lt-mul_of_pos_right h (pow_pos k)) (le_trans (le_of_eq (sym (pow-add 2 53 k))) (pow_mono r))

within : (x : Float) → Parts x → Within x (sqrt x)
within x p =
    let R = p.R in
    let s = p.s in
    let h = p.h in
    let q = (s + 1) / 2 in
    let k = h + 485 in
    let s_lo : 2 ^ 53 ≤ s = root_ge R s p.lo p.root in
    let s_hi : s < 2 ^ 54 - 1 = root_lt R s p.hi p.root in
    let h_le : h ≤ 1048 = p.H in
    let k_le : k ≤ 2000 = omega arith in
    let q_lo : 2 ^ 52 ≤ q = omega arith in
    let q_hi : q < 2 ^ 53 = omega arith in
    let r_is : sqrt x ≡ units binary64 false q k = root_units R s h p.lo p.hi p.root x p.a p.a_pos p.value p.scaled in
    let X = 4 * ulps x * 2 ^ 1074 in
    let N = R * 2 ^ 54 in
    let x_is : X ≡ N * (2 ^ k * 2 ^ k) = ap (λ (y : ℕ). 4 * y * 2 ^ 1074) (ulps_of x p.a p.value) ∙ four_x p.a R h p.scaled in
    record {
      half = record {
        q = q;
        k = k;
        is = ap ulps r_is ∙ ulps_of (units binary64 false q k) (q * 2 ^ k) (units_val binary64 false q k (small_enough q k q_hi k_le));
        lead = q_lo;
        digits = q_hi;
        low = square_below (2 * q - 1) N (2 ^ k) X (pow_pos k) x_is (under R s s_lo p.root);
        high = square_above (2 * q + 1) N (2 ^ k) X (pow_pos k) x_is (over R s p.root);
      };
      at_edge = λ e. square_most (2 * q) N (2 ^ k) X (pow_pos k) x_is (edge R s s_lo p.root e);
    }

pub half_unit : (m : ℕ) (e : ℤ) → T (fits binary64 (fin false (suc m) e)) → HalfUnit (fin false (suc m) e) (sqrt (fin false (suc m) e))
half_unit m e f = (within (fin false (suc m) e) (parts m e f)).half

-- ---- the doubles around q * 2 ^ k, for a q of 53 digits
-- n * 2 ^ d, with n of 53 digits at most, is a multiple of 2 ^ k or is below 2 ^ 52 * 2 ^ k
grid : (n d k : ℕ) → n < 2 ^ 53 → ((c : ℕ) × (n * 2 ^ d ≡ c * 2 ^ k)) ⊎ (n * 2 ^ d < 2 ^ 52 * 2 ^ k)
grid n d k h = go (dec_le k d)
  where
    go : Dec (k ≤ d) → ((c : ℕ) × (n * 2 ^ d ≡ c * 2 ^ k)) ⊎ (n * 2 ^ d < 2 ^ 52 * 2 ^ k)
    go (yes l) =
        let e : d ≡ d - k + k = omega arith in
        inl (n * 2 ^ (d - k), ap (λ (y : ℕ). n * 2 ^ y) e ∙ ap (λ (y : ℕ). n * y) (pow-add 2 (d - k) k) ∙ sym (mul_assoc n (2 ^ (d - k)) (2 ^ k)))
    go (no f) =
        let m : d < k = lt_of_not-le f in
        let l : 1 + d ≤ k = omega arith in
        let a : 2 ^ (1 + d) ≤ 2 ^ k = pow_mono l in
        let b : 2 ^ (1 + d) ≡ 2 * 2 ^ d = pow-add 2 1 d in
        let c : n * 2 ^ d < 2 ^ 53 * 2 ^ d = mul-lt-mul_of_pos_right h (pow_pos d) in
        inr (omega arith)

grid_above : (n d k q : ℕ) → n < 2 ^ 53 → 2 ^ 52 ≤ q → q * 2 ^ k < n * 2 ^ d → (q + 1) * 2 ^ k ≤ n * 2 ^ d
grid_above n d k q h l g = go (grid n d k h)
  where
    go : ((c : ℕ) × (n * 2 ^ d ≡ c * 2 ^ k)) ⊎ (n * 2 ^ d < 2 ^ 52 * 2 ^ k) → (q + 1) * 2 ^ k ≤ n * 2 ^ d
    go (inl c) =
        let a : q < c.0 = lt_of_mul-lt-mul_right (2 ^ k) (subst (λ (y : ℕ). q * 2 ^ k < y) c.1 g) in
        let b : q + 1 ≤ c.0 = omega arith in
        subst (λ (y : ℕ). (q + 1) * 2 ^ k ≤ y) (sym c.1) (mul-le-mul_right (2 ^ k) b)
    go (inr b) =
        let a : 2 ^ 52 * 2 ^ k ≤ q * 2 ^ k = mul-le-mul_right (2 ^ k) l in
        omega arith

grid_below : (n d k q : ℕ) → n < 2 ^ 53 → 2 ^ 52 ≤ q → n * 2 ^ d < q * 2 ^ k → (n * 2 ^ d ≤ (q - 1) * 2 ^ k) ⊎ (q ≡ 2 ^ 52)
grid_below n d k q h l g = go (grid n d k h) (dec_le q (2 ^ 52))
  where
    go : ((c : ℕ) × (n * 2 ^ d ≡ c * 2 ^ k)) ⊎ (n * 2 ^ d < 2 ^ 52 * 2 ^ k) → Dec (q ≤ 2 ^ 52) → (n * 2 ^ d ≤ (q - 1) * 2 ^ k) ⊎ (q ≡ 2 ^ 52)
    go (inl c) w =
        let a : c.0 < q = lt_of_mul-lt-mul_right (2 ^ k) (subst (λ (y : ℕ). y < q * 2 ^ k) c.1 g) in
        let b : c.0 ≤ q - 1 = omega arith in
        inl (subst (λ (y : ℕ). y ≤ (q - 1) * 2 ^ k) (sym c.1) (mul-le-mul_right (2 ^ k) b))
    go (inr b) (yes w) = inr (omega arith)
    go (inr b) (no w) =
        let v : 2 ^ 52 < q = lt_of_not-le w in
        let u : 2 ^ 52 ≤ q - 1 = omega arith in
        let a : 2 ^ 52 * 2 ^ k ≤ (q - 1) * 2 ^ k = mul-le-mul_right (2 ^ k) u in
        inl (omega arith)

-- ---- the middle
module _ (q k Y X : ℕ) (lead : 2 ^ 52 ≤ q) where
  middle_above : (q + 1) * 2 ^ k ≤ Y → X < (2 * q + 1) * 2 ^ k * ((2 * q + 1) * 2 ^ k) → X < (q * 2 ^ k + Y) * (q * 2 ^ k + Y)
  middle_above h g =
      let a : (q + 1) * 2 ^ k ≡ q * 2 ^ k + 1 * 2 ^ k = add-mul q 1 (2 ^ k) in
      let b : (2 * q + 1) * 2 ^ k ≡ 2 * q * 2 ^ k + 1 * 2 ^ k = add-mul (2 * q) 1 (2 ^ k) in
      let c : 2 * q * 2 ^ k ≡ 2 * (q * 2 ^ k) = mul_assoc 2 q (2 ^ k) in
      let l : (2 * q + 1) * 2 ^ k ≤ q * 2 ^ k + Y = omega arith in
      lt_of_lt_of_le g (mul-le-mul l l)

  middle_below : Y ≤ (q - 1) * 2 ^ k → (2 * q - 1) * 2 ^ k * ((2 * q - 1) * 2 ^ k) < X → (q * 2 ^ k + Y) * (q * 2 ^ k + Y) < X
  middle_below h g =
      let e : 2 * q - 1 ≡ q + (q - 1) = omega arith in
      let b : (2 * q - 1) * 2 ^ k ≡ q * 2 ^ k + (q - 1) * 2 ^ k = ap (λ (y : ℕ). y * 2 ^ k) e ∙ add-mul q (q - 1) (2 ^ k) in
      let l : q * 2 ^ k + Y ≤ (2 * q - 1) * 2 ^ k = omega arith in
      lt_of_le_of_lt (mul-le-mul l l) g

  middle_edge : Y < q * 2 ^ k → 2 * q * 2 ^ k * (2 * q * 2 ^ k) ≤ X → (q * 2 ^ k + Y) * (q * 2 ^ k + Y) < X
  middle_edge h g =
      let c : 2 * q * 2 ^ k ≡ 2 * (q * 2 ^ k) = mul_assoc 2 q (2 ^ k) in
      let l : q * 2 ^ k + Y < 2 * q * 2 ^ k = omega arith in
      lt_of_lt_of_le (sq_lt (q * 2 ^ k + Y) (2 * q * 2 ^ k) l) g

nearer_by : (x r y : Float) (n d : ℕ) → Within x r → n < 2 ^ 53 → ulps y ≡ n * 2 ^ d → Nearer x r y
nearer_by x r y n d w h e =
    let p = w.half in
    let q = p.q in
    let k = p.k in
    let X = 4 * ulps x * 2 ^ 1074 in
    record {
      below = λ l.
          let g : n * 2 ^ d < q * 2 ^ k = subst₂ (λ (a b : ℕ). a < b) e p.is l in
          subst₂ (λ (a b : ℕ). (a + b) * (a + b) < X) (sym p.is) (sym e)
          (either (λ c. middle_below q k (n * 2 ^ d) X p.lead c p.low) (λ c. middle_edge q k (n * 2 ^ d) X p.lead g (w.at_edge c)) (grid_below n d k q h p.lead g));
      above = λ l.
          let g : q * 2 ^ k < n * 2 ^ d = subst₂ (λ (a b : ℕ). a < b) p.is e l in
          subst₂ (λ (a b : ℕ). X < (a + b) * (a + b)) (sym p.is) (sym e) (middle_above q k (n * 2 ^ d) X p.lead (grid_above n d k q h p.lead g) p.high);
    }
  where
    either : {A B C : Type 0} → (A → C) → (B → C) → A ⊎ B → C
    either f g (inl a) = f a
    either f g (inr b) = g b

ulps_zero : (s : Bool) (e : ℤ) → ulps (fin s 0 e) ≡ 0 * 2 ^ 0
unfolding ulps
ulps_zero s e = ap (λ (y : ℕ). y * 2 ^ 1074 / down e) (zero-mul (up e)) ∙ zero-div (down e)

-- `ulps` loses nothing
pub ulps_exact : (m : ℕ) (e : ℤ) → T (fits binary64 (fin false m e)) → ulps (fin false m e) * down e ≡ m * up e * 2 ^ 1074
ulps_exact zero e f = ap (λ (y : ℕ). y * down e) (ulps_zero false e) ∙ zero-mul (down e) ∙ sym (ap (λ (y : ℕ). y * 2 ^ 1074) (zero-mul (up e)))
ulps_exact (suc m) e f =
    let p = digits_of m e f in
    ap (λ (y : ℕ). y * down e) (ulps_of (fin false (suc m) e) (p.0 * 2 ^ p.1) p.5) ∙ sym p.5.1

-- For a double x above zero, every other double that is not negative is further from the root than `sqrt x`.
pub nearest : (m : ℕ) (e : ℤ) (n : ℕ) (d : ℤ) → T (fits binary64 (fin false (suc m) e)) → T (fits binary64 (fin false n d)) → Nearer (fin false (suc m) e) (sqrt (fin false (suc m) e)) (fin false n d)
nearest m e zero d f g =
    let x = fin false (suc m) e in
    nearer_by x (sqrt x) (fin false 0 d) 0 0 (within x (parts m e f)) (pow_pos 53) (ulps_zero false d)
nearest m e (suc n) d f g =
    let x = fin false (suc m) e in
    let y = fin false (suc n) d in
    let p = digits_of n d g in
    nearer_by x (sqrt x) y p.0 p.1 (within x (parts m e f)) p.3 (ulps_of y (p.0 * 2 ^ p.1) p.5)
