-- `abs` by the tests of a float with zero.
use Rattle.std.specs.Prelude.{◌≡◌, ◌||◌, ◌+◌, ◌*◌, ◌^◌, ◌≤◌}
use Rattle.laws.specs.Kit.{refl, sym, ◌∙◌, ap, true, false, true≢false, false≢true, ℕ, zero, suc, arith, eqb, eq-eqb, eqb-true, ltb-true, ltb-false, ℤ, pos, negsuc, Float, binary64, nan, fin, inf, down, up, of_bits, fits, eq, lt, neg}
use mathlib.Core.Bool.{beq}
use Rattle.definition.specs.Floats.{abs}
use Rattle.laws.specs.Bools.{and_left, not_and}
use Rattle.root.proofs.Special.{flat, not_below, not_level, pos_size}

pub abs_below : (x : Float) → lt x (of_bits binary64 0) ≡ true → neg x ≡ abs x
unfolding lt of_bits neg abs
abs_below nan h = refl
abs_below (inf true) h = refl
abs_below (inf false) h = absurd (false≢true h)
abs_below (fin true m e) h = refl
abs_below (fin false m e) h = absurd (not_below (m * up e * 1) (0 * 1 * down e) (flat (down e)) (ltb-true (m * up e * 1) (0 * 1 * down e) h))

-- a zero that fits is written with the exponent 0
odd_power : (k : ℕ) → 2 ^ suc k ≡ 1 → ⊥
odd_power k h = omega arith

fit_zero : (e : ℤ) → eqb (up e * down e) 1 ≡ true → e ≡ pos 0
fit_zero (pos zero) h = refl
fit_zero (pos (suc k)) h = absurd (odd_power k (omega (arith, eqb-true (2 ^ suc k * 1) 1 h)))
fit_zero (negsuc k) h = absurd (odd_power k (omega (arith, eqb-true (1 * 2 ^ suc k) 1 h)))

pub abs_zero : (x : Float) → fits binary64 x ≡ true → eq x (of_bits binary64 0) ≡ true → of_bits binary64 0 ≡ abs x
unfolding eq of_bits abs fits
abs_zero nan f h = absurd (false≢true h)
abs_zero (inf s) f h = absurd (false≢true h)
abs_zero (fin s zero e) f h = ap (fin false 0) (sym (fit_zero e f))
abs_zero (fin s (suc m) e) f h =
    absurd
    (not_level (suc m * up e * 1) (0 * 1 * down e) (pos_size m e) (flat (down e))
    (eqb-true (suc m * up e * 1) (0 * 1 * down e) (and_left (eqb (suc m * up e * 1) (0 * 1 * down e)) (beq s false || eqb (suc m * up e * 1) 0) h)))

-- neither test passes
none : (a b : ℕ) → b ≡ 0 → a + b ≤ 0 → a ≡ 0
none a b e h = omega arith

pub abs_above : (x : Float) → lt x (of_bits binary64 0) ≡ false → eq x (of_bits binary64 0) ≡ false → x ≡ abs x
unfolding lt eq of_bits abs
abs_above nan h k = refl
abs_above (inf true) h k = absurd (true≢false h)
abs_above (inf false) h k = refl
abs_above (fin false m e) h k = refl
abs_above (fin true m e) h k =
    let z : m * up e * 1 ≡ 0 = none (m * up e * 1) (0 * 1 * down e) (flat (down e)) (ltb-false 0 (m * up e * 1 + 0 * 1 * down e) h) in
    absurd
    (not_and (eqb (m * up e * 1) (0 * 1 * down e)) (beq true false || eqb (m * up e * 1) 0)
    (eq-eqb (m * up e * 1) (0 * 1 * down e) (z ∙ sym (flat (down e)))) (eq-eqb (m * up e * 1) 0 z) k)
