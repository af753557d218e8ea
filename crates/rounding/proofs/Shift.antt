-- How far a significand is shifted up so that its leading digit stands at 2 ^ 52:
-- by 11 less than the leading zeros of a word.
-- Assumes nothing.
use Rattle.std.specs.Prelude.{◌≡◌, ◌+◌, ◌-◌, ◌*◌, ◌^◌, ◌<◌, ◌≤◌}
use Rattle.laws.specs.Kit.{sym, ◌∙◌, ap, subst, ℕ, suc, arith, mul-le-mul_right, mul-lt-mul_of_pos_right, pow_pos, pow-add, pow_mono}
use Rattle.std.proofs.Common.{lt_of_lt_of_le, le_of_suc-le-suc, lt_of_not-le, not-le_of_lt}
use Rattle.std.specs.Int.Count.{count_leading_zeros}
use Rattle.std.proofs.lemmas.Nat.{leading_top}
use Rattle.rounding.specs.Parts.{Leading}

-- the place of the leading digit of an m below 2 ^ 53 is 52 at most
place : (m j : ℕ) → m < 2 ^ 53 → 2 ^ j ≤ m → j ≤ 52
place m j h g = le_of_suc-le-suc (lt_of_not-le (λ (k : 53 ≤ j). not-le_of_lt (lt_of_lt_of_le h (pow_mono k)) g))

pub leading : (m : ℕ) → 0 < m → m < 2 ^ 53 → (11 ≤ count_leading_zeros 64 m) × Leading m (count_leading_zeros 64 m - 11)
leading m p h =
    let w : m < 2 ^ 64 = omega arith in
    let t = leading_top 64 m p w in
    let j = t.0 in
    let z = count_leading_zeros 64 m - 11 in
    let e : count_leading_zeros 64 m + suc j ≡ 64 = t.1 in
    let l : j ≤ 52 = place m j h t.2 in
    let k : j + z ≡ 52 = omega arith in
    let k' : suc j + z ≡ 53 = omega arith in (
      omega arith,
      record {
        most = omega arith;
        lead = subst (λ (x : ℕ). x ≤ m * 2 ^ z) (sym (pow-add 2 j z) ∙ ap (λ (x : ℕ). 2 ^ x) k) (mul-le-mul_right (2 ^ z) t.2);
        digits = subst (λ (x : ℕ). m * 2 ^ z < x) (sym (pow-add 2 (suc j) z) ∙ ap (λ (x : ℕ). 2 ^ x) k') (mul-lt-mul_of_pos_right t.3 (pow_pos z));
      },
    )
