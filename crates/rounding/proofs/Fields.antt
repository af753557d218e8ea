-- The value that a double's bit pattern stands for, and the pattern of a value,
use Rattle.std.specs.Prelude.{◌≡◌, ◌&&◌, ◌+◌, ◌-◌, ◌*◌, ◌/◌, ◌%◌, ◌^◌, ◌<◌, ◌≤◌}
use Rattle.laws.specs.Kit.{refl, sym, ◌∙◌, ap, subst, Bool, true, false, cond, true≢false, ℕ, zero, suc, arith, dec_lt, mul-le-mul_right, mul-lt-mul_of_pos_right, eqb, ltb, leb, T, le-leb, pow_pos, pow-add, pow_mono, ℤ, Float, binary64, nan, fin, inf, down, up, of_bits, to_bits, fits}
use Rattle.std.proofs.Common.{zero-add, add_assoc, zero-mul, mul-div_cancel, mod-eq_of_lt, le_trans, le_of_eq, lt_of_lt_of_le, mul_right_comm, div-lt_iff_lt-mul, eqb→eq, ltb→lt}
use Rattle.std.proofs.Math.Nat.{zero-div}
use Rattle.std.proofs.Math.Dec.{not_T}
use Rattle.std.proofs.Math.Arith.{lt→nleb}
use Rattle.std.specs.Float.Ieee.{size, odd, units, of_fields}
use Rattle.std.specs.Float.Ieee.Digits.{size-le}
use Rattle.std.specs.Float.Ieee.Fits.{down_pos, kept-lt, and_r}
use Rattle.std.specs.Float.Ieee.Bits.{is_false, cond_no, of_bits-to_bits}
use Rattle.std.specs.Float.Ieee.Exact.{HasValue, odd_sign, units_val}
use Rattle.rounding.specs.Parts.{Significand}
use Rattle.rounding.proofs.Rounded.{size_exact}
use Rattle.rounding.specs.Fields.{layout, signed}

toBits_fin : (s : Bool) (m : ℕ) (e : ℤ) → to_bits binary64 (fin s m e) ≡ signed s (layout (m * up e * 2 ^ 1074 / down e))
unfolding to_bits
toBits_fin s m e =
    let n = m * up e * 2 ^ 1074 / down e in
    add_assoc (cond s (2 ^ 63) 0) ((size n - 53) * 2 ^ 52) (n / 2 ^ (size n - 53))

toBits_plus : (m : ℕ) (e : ℤ) → to_bits binary64 (fin false m e) ≡ layout (m * up e * 2 ^ 1074 / down e)
toBits_plus m e = toBits_fin false m e ∙ zero-add (layout (m * up e * 2 ^ 1074 / down e))

toBits_of : (v : Float) (a : ℕ) → HasValue v false a (2 ^ 1074) → to_bits binary64 v ≡ layout a
toBits_of nan a h = absurd h
toBits_of (inf s) a h = absurd h
toBits_of (fin true m e) a h = absurd (true≢false h.0)
toBits_of (fin false m e) a h = toBits_plus m e ∙ ap layout (ap (λ (x : ℕ). x / down e) h.1 ∙ mul-div_cancel a (down_pos e))

-- two doubles that are a / 2 ^ 1074 are the same
pub same_value : (x y : Float) (a : ℕ) → T (fits binary64 x) → T (fits binary64 y) → HasValue x false a (2 ^ 1074) → HasValue y false a (2 ^ 1074) → x ≡ y
same_value x y a p q v w = sym (of_bits-to_bits binary64 x p) ∙ ap (of_bits binary64) (toBits_of x a v ∙ sym (toBits_of y a w)) ∙ of_bits-to_bits binary64 y q

pub units_bits : (q k : ℕ) → 2 ^ 52 ≤ q → q < 2 ^ 53 → k ≤ 2000 → to_bits binary64 (units binary64 false q k) ≡ k * 2 ^ 52 + q
units_bits q k lo hi K =
    let a = q * 2 ^ k in
    let e : 2 ^ suc (52 + k) ≡ 2 ^ 53 * 2 ^ k = ap (λ (x : ℕ). 2 ^ x) (next k) ∙ pow-add 2 53 k in
    let lo' : 2 ^ (52 + k) ≤ a = le_trans (le_of_eq (pow-add 2 52 k)) (mul-le-mul_right (2 ^ k) lo) in
    let hi' : a < 2 ^ suc (52 + k) = lt_of_lt_of_le (mul-lt-mul_of_pos_right hi (pow_pos k)) (le_of_eq (sym e)) in
    let z : size a - 53 ≡ k = ap (λ (x : ℕ). x - 53) (size_exact (52 + k) a lo' hi') ∙ cut k in
    let room : a < 2 ^ 2098 = lt_of_lt_of_le hi' (pow_mono (fit k K)) in
    toBits_of (units binary64 false q k) a (units_val binary64 false q k room)
    ∙ ap (λ (x : ℕ). x * 2 ^ 52 + a / 2 ^ x) z
    ∙ ap (λ (x : ℕ). k * 2 ^ 52 + x) (mul-div_cancel q (pow_pos k))
  where
    next : (k : ℕ) → suc (52 + k) ≡ 53 + k
    next k = omega arith

    cut : (k : ℕ) → suc (52 + k) - 53 ≡ k
    cut k = omega arith

    fit : (k : ℕ) → k ≤ 2000 → suc (52 + k) ≤ 2098
    fit k h = omega arith

-- ---- the value of a pattern
subnormal : (s : Bool) (t : ℕ) → HasValue (of_fields binary64 s 0 t) s (t * 2 ^ 0) (2 ^ 1074)
unfolding of_fields
subnormal s t = odd_sign 53 s t 0 1074

normal_is : (s : Bool) (x t : ℕ) → suc x < 2047 → of_fields binary64 s (suc x) t ≡ odd 53 s (2 ^ 52 + t) x 1074
unfolding of_fields
normal_is s x t h = cond_no (eqb (suc x) 2047) (cond (eqb t 0) (inf s) nan) (odd 53 s (2 ^ 52 + t) x 1074) (not_T (eqb (suc x) 2047) (λ u. no_eq (suc x) h (eqb→eq (suc x) 2047 u)))
  where
    no_eq : (y : ℕ) → y < 2047 → y ≡ 2047 → ⊥
    no_eq y h e = omega arith

normal : (s : Bool) (x t : ℕ) → suc x < 2047 → HasValue (of_fields binary64 s (suc x) t) s ((2 ^ 52 + t) * 2 ^ x) (2 ^ 1074)
normal s x t h = subst (λ (v : Float). HasValue v s ((2 ^ 52 + t) * 2 ^ x) (2 ^ 1074)) (sym (normal_is s x t h)) (odd_sign 53 s (2 ^ 52 + t) x 1074)

ofBits_fields : (s : Bool) (a : ℕ) → a < 2 ^ 63 → of_bits binary64 (signed s a) ≡ of_fields binary64 s (a / 2 ^ 52) (a % 2 ^ 52)
unfolding of_bits
ofBits_fields true a h =
    let t : leb (2 ^ 63) (2 ^ 63 + a) ≡ true = le-leb (2 ^ 63) (2 ^ 63 + a) (omega arith) in
    let x : (2 ^ 63 + a) % 2 ^ 63 ≡ a = omega arith in
    let y : (2 ^ 63 + a) % 2 ^ 52 ≡ a % 2 ^ 52 = omega arith in
    ap (λ (s : Bool). of_fields binary64 s ((2 ^ 63 + a) % 2 ^ 63 / 2 ^ 52) ((2 ^ 63 + a) % 2 ^ 52)) t
    ∙ ap (λ (z : ℕ). of_fields binary64 true (z / 2 ^ 52) ((2 ^ 63 + a) % 2 ^ 52)) x
    ∙ ap (λ (z : ℕ). of_fields binary64 true (a / 2 ^ 52) z) y
ofBits_fields false a h =
    ap (λ (z : ℕ). of_fields binary64 (leb (2 ^ 63) z) (z % 2 ^ 63 / 2 ^ 52) (z % 2 ^ 52)) (zero-add a)
    ∙ ap (λ (s : Bool). of_fields binary64 s (a % 2 ^ 63 / 2 ^ 52) (a % 2 ^ 52)) (is_false (leb (2 ^ 63) a) (lt→nleb (2 ^ 63) a h))
    ∙ ap (λ (x : ℕ). of_fields binary64 false (x / 2 ^ 52) (a % 2 ^ 52)) (mod-eq_of_lt h)

-- a is the bits with the sign's taken off, and m the significand
pub signed_value : (s : Bool) (a m : ℕ) → a < 2047 * 2 ^ 52 → Significand a m → HasValue (of_bits binary64 (signed s a)) s (m * 2 ^ (a / 2 ^ 52 - 1)) (2 ^ 1074)
signed_value s b m h p =
    let small : b < 2 ^ 63 = omega arith in
    subst (λ (v : Float). HasValue v s (m * 2 ^ (b / 2 ^ 52 - 1)) (2 ^ 1074)) (sym (ofBits_fields s b small)) (go (b / 2 ^ 52) refl)
  where
    go : (x : ℕ) → b / 2 ^ 52 ≡ x → HasValue (of_fields binary64 s x (b % 2 ^ 52)) s (m * 2 ^ (x - 1)) (2 ^ 1074)
    go zero e =
        let l : b < 2 ^ 52 = omega arith in
        let f : b % 2 ^ 52 ≡ b = omega arith in
        subst (λ (y : ℕ). HasValue (of_fields binary64 s 0 (b % 2 ^ 52)) s (y * 2 ^ 0) (2 ^ 1074)) (f ∙ sym (p.low l)) (subnormal s (b % 2 ^ 52))
    go (suc x) e =
        let l : 2 ^ 52 ≤ b = omega arith in
        let k : suc x < 2047 = omega arith in
        let f : 2 ^ 52 + b % 2 ^ 52 ≡ b % 2 ^ 52 + 2 ^ 52 = omega arith in
        let g : x ≡ suc x - 1 = omega arith in
        subst (λ (y : ℕ). HasValue (of_fields binary64 s (suc x) (b % 2 ^ 52)) s (y * 2 ^ (suc x - 1)) (2 ^ 1074)) (f ∙ sym (p.high l))
        (subst (λ (y : ℕ). HasValue (of_fields binary64 s (suc x) (b % 2 ^ 52)) s ((2 ^ 52 + b % 2 ^ 52) * 2 ^ y) (2 ^ 1074)) g (normal s x (b % 2 ^ 52) k))

pub field_value : (b m : ℕ) → b < 2047 * 2 ^ 52 → Significand b m → HasValue (of_bits binary64 b) false (m * 2 ^ (b / 2 ^ 52 - 1)) (2 ^ 1074)
field_value b m h p = subst (λ (y : ℕ). HasValue (of_bits binary64 y) false (m * 2 ^ (b / 2 ^ 52 - 1)) (2 ^ 1074)) (zero-add b) (signed_value false b m h p)

-- every pattern has a significand
pub sig_of : (b : ℕ) → (m : ℕ) × Significand b m
sig_of b = go (dec_lt b (2 ^ 52))
  where
    go : Dec (b < 2 ^ 52) → (m : ℕ) × Significand b m
    go (yes h) = (b, record { low = λ _. refl; high = λ k. omega arith; some = λ p. p; short = omega arith })
    go (no f) = (b % 2 ^ 52 + 2 ^ 52, record { low = λ k. absurd (f k); high = λ _. refl; some = λ p. omega arith; short = omega arith })

layout_lt : (a : ℕ) → a < 2 ^ 2098 → layout a < 2047 * 2 ^ 52
layout_lt a h = go (size a) (a / 2 ^ (size a - 53)) (size-le a 2098 h) (kept-lt 53 a)
  where
    go : (z w : ℕ) → z ≤ 2098 → w < 2 ^ 53 → (z - 53) * 2 ^ 52 + w < 2047 * 2 ^ 52
    go z w a b = omega arith

-- ---- the pattern of any finite value: its sign, and the rest below an infinity's
finite_size : (s : Bool) (m : ℕ) (e : ℤ) → T (fits binary64 (fin s m e)) → m * up e * 2 ^ 1074 / down e < 2 ^ 2098
unfolding fits
finite_size s zero e t = subst (λ (x : ℕ). x < 2 ^ 2098) (sym (ap (λ (y : ℕ). y * 2 ^ 1074 / down e) (zero-mul (up e)) ∙ zero-div (down e))) (pow_pos 2098)
finite_size s (suc m) e t =
    let b : suc m * up e < 2 ^ 1024 * down e = ltb→lt (suc m * up e) (2 ^ 1024 * down e) (and_r (eqb (suc m % 2) 1 && ltb (suc m) (2 ^ 53) && leb (down e) (2 ^ 1074)) (ltb (suc m * up e) (2 ^ 1024 * down e)) t) in
    (div-lt_iff_lt-mul (down_pos e)).1 (subst (λ (x : ℕ). suc m * up e * 2 ^ 1074 < x) (mul_right_comm (2 ^ 1024) (down e) (2 ^ 1074)) (mul-lt-mul_of_pos_right b (pow_pos 1074)))

pub finite_bits : (s : Bool) (m : ℕ) (e : ℤ) → T (fits binary64 (fin s m e)) → (a : ℕ) × (to_bits binary64 (fin s m e) ≡ signed s a) × (a < 2047 * 2 ^ 52)
finite_bits s m e t = (layout (m * up e * 2 ^ 1074 / down e), toBits_fin s m e, layout_lt (m * up e * 2 ^ 1074 / down e) (finite_size s m e t))

pub bits_lt : (m : ℕ) (e : ℤ) → T (fits binary64 (fin false (suc m) e)) → to_bits binary64 (fin false (suc m) e) < 2047 * 2 ^ 52
bits_lt m e t =
    let b = finite_bits false (suc m) e t in
    subst (λ (x : ℕ). x < 2047 * 2 ^ 52) (sym (b.1 ∙ zero-add b.0)) b.2

-- only +0 has the pattern 0
mantissa : Float → ℕ
mantissa nan = 0
mantissa (inf s) = 0
mantissa (fin s m e) = m

pub bits_pos : (m : ℕ) (e : ℤ) → T (fits binary64 (fin false (suc m) e)) → 0 < to_bits binary64 (fin false (suc m) e)
bits_pos m e t = go (to_bits binary64 (fin false (suc m) e)) (of_bits-to_bits binary64 (fin false (suc m) e) t)
  where
    no_zero : ◌≡◌ {A = ℕ} 0 (suc m) → ⊥
    no_zero e = omega arith

    go : (b : ℕ) → of_bits binary64 b ≡ fin false (suc m) e → 0 < b
    go zero h = absurd (no_zero (unfold mantissa of_bits in (ap mantissa h)))
    go (suc b) h = omega arith
