-- Sixteen hexadecimal digits, one after the other.
use Rattle.std.specs.Prelude.{◌≡◌, ◌&&◌, ◌+◌, ◌-◌, ◌*◌, ◌^◌, ◌<◌, ◌≤◌, ◌∷◌}
use Rattle.laws.specs.Kit.{refl, ◌∙◌, ap, Bool, true, false, cond, Option, none, some, ℕ, zero, suc, arith, eqb, leb, lt-leb, le-leb, pow-add, pow_mono, [], foldl, length, get_or, take, drop, ne_eqb}
use native.Mathlib.Nat.{le_trans}
use borrow.Author.Tests.{leb-true}
use lib.Seq.{take_all}
use lib.Dec.{eqb-suc-suc, eqb-zero-suc}
use Rattle.laws.specs.Bools.{both}
use Rattle.definition.specs.Lists.{all}
use Rattle.definition.specs.Text.{Bytes, Taken, is_digit, is_hex, hex_digit, hex_value, hex}
use Rattle.reading.specs.Found.{taken}
use Rattle.reading.proofs.Bytes.{from}
use Rattle.reading.proofs.Digits.{digit_within}

-- ---- one digit

pub of_digit : (c : ℕ) → is_digit c ≡ true → (is_hex c ≡ true) × (c - 48 ≡ hex_digit c)
unfolding is_hex hex_digit
of_digit c h = (rw h, rw h)

pub of_low : (c : ℕ) → is_digit c ≡ false → c < 97 → is_hex c ≡ false
unfolding is_hex
of_low c h l = rw (h, lt-leb 97 c l)

pub of_high : (c : ℕ) → is_digit c ≡ false → 97 ≤ c → 102 < c → is_hex c ≡ false
unfolding is_hex
of_high c h l u = rw (h, le-leb 97 c l, lt-leb c 102 u)

pub of_letter : (c : ℕ) → is_digit c ≡ false → 97 ≤ c → c ≤ 102 → (is_hex c ≡ true) × (c - 97 + 10 ≡ hex_digit c)
unfolding is_hex hex_digit
of_letter c h l u = (rw (h, le-leb 97 c l, le-leb c 102 u), rw h (omega arith))

-- a digit's value is below 16
pub below : (c : ℕ) → is_hex c ≡ true → hex_digit c < 16
unfolding is_hex hex_digit
below c h = go (is_digit c) refl
  where
    go : (d : Bool) → is_digit c ≡ d → cond (is_digit c) (c - 48) (c - 87) < 16
    go true e = rw e (omega (arith, digit_within c e))
    go false e =
        let k : leb 97 c && leb c 102 ≡ true = rw e at h in
        let l : c ≤ 102 = leb-true c 102 (both (leb 97 c) (leb c 102) k).1 in
        rw e (omega arith)

-- ---- k digits, the first of them after the number v

unfoldable pub hexes : ℕ → ℕ → Bytes → Option (Taken ℕ)
hexes zero v s = some (record { value = v; rest = s })
hexes (suc k) v [] = none
hexes (suc k) v (c ∷ s) = cond (is_hex c) (hexes k (16 * v + hex_digit c) s) none

-- what the definition says at once
abbrev at_once : ℕ → ℕ → Bytes → Option (Taken ℕ)
at_once k v s =
    cond (eqb (length (take k s)) k && all is_hex (take k s))
    (some (record { value = foldl (λ n d. 16 * n + hex_digit d) v (take k s); rest = drop k s })) none

one_by_one : (k v : ℕ) (s : Bytes) → at_once k v s ≡ hexes k v s
unfolding hexes all
one_by_one zero v s = refl
one_by_one (suc k) v [] = rw (eqb-zero-suc k)
one_by_one (suc k) v (c ∷ s) = rw (eqb-suc-suc (length (take k s)) k) (step (one_by_one k (16 * v + hex_digit c) s) (is_hex c) refl)
  where
    no_more : (b : Bool) → ◌≡◌ {A = Option (Taken ℕ)} (cond (b && false) (some (record { value = foldl (λ n d. 16 * n + hex_digit d) (16 * v + hex_digit c) (take k s); rest = drop k s })) none) none
    no_more true = refl
    no_more false = refl

    step : at_once k (16 * v + hex_digit c) s ≡ hexes k (16 * v + hex_digit c) s → (b : Bool) → is_hex c ≡ b
        → cond (eqb (length (take k s)) k && (is_hex c && all is_hex (take k s))) (some (record { value = foldl (λ n d. 16 * n + hex_digit d) (16 * v + hex_digit c) (take k s); rest = drop k s })) none
        ≡ cond (is_hex c) (hexes k (16 * v + hex_digit c) s) none
    step rest true e = rw e rest
    step rest false e = rw e (no_more (eqb (length (take k s)) k))

pub hex_start : (s : Bytes) → hex s ≡ hexes 16 0 s
unfolding hex hex_value
hex_start s = one_by_one 16 0 s

-- fewer than sixteen bytes
pub hex_short : (s : Bytes) → length s < 16 → none ≡ hex s
unfolding hex
hex_short s h =
    let all_of : take 16 s ≡ s = take_all 16 s (omega arith) in
    rw (all_of, ne_eqb (length s) 16 (λ e. absurd (omega arith)))

-- ---- a turn: i digits are read
module _ (s : Bytes) (v i : ℕ) (h : i < 16) (k : i < length s) where
  left : 16 - i ≡ suc (16 - (i + 1))
  left = omega arith

  pub hexes_other : is_hex (get_or s i 0) ≡ false → none ≡ hexes (16 - i) v (drop i s)
  unfolding hexes
  hexes_other e = rw (left, from s i k, e)

  pub hexes_more : (d : ℕ) → (is_hex (get_or s i 0) ≡ true) × (d ≡ hex_digit (get_or s i 0)) → hexes (16 - i) v (drop i s) ≡ hexes (16 - (i + 1)) (16 * v + d) (drop (i + 1) s)
  unfolding hexes
  hexes_more d f = rw (left, from s i k, f.0, f.1)

pub hexes_done : (s : Bytes) (v i : ℕ) → i ≡ 16 → taken v (drop 16 s) ≡ hexes (16 - i) v (drop i s)
unfolding hexes
hexes_done s v i h = rw h

-- ---- the number fits: i digits are 4 i bits

pub bits_more : (v d i : ℕ) → d ≤ 15 → v < 2 ^ (4 * i) → 16 * v + d < 2 ^ (4 * (i + 1))
bits_more v d i h l =
    let e : 2 ^ (4 * (i + 1)) ≡ 2 ^ (4 * i) * 16 = ap (λ (n : ℕ). 2 ^ n) (omega arith) ∙ pow-add 2 (4 * i) 4 in
    omega arith

pub bits_fit : (v d i : ℕ) → i < 16 → d ≤ 15 → v < 2 ^ (4 * i) → 16 * v + d < 2 ^ 64
bits_fit v d i h k l = le_trans (bits_more v d i k l) (pow_mono {i = 4 * (i + 1)} {j = 64} (omega arith))
