-- Digits of numbers.
use Rattle.std.specs.Prelude.{◌≡◌, ◌+◌, ◌-◌, ◌*◌, ◌/◌, ◌%◌, ◌^◌, ◌<◌, ◌≤◌, ◌∷◌, ◌++◌}
use Rattle.laws.specs.Kit.{refl, sym, ◌∙◌, ap, Bool, true, false, cond, ℕ, zero, suc, arith, ltb, lt-ltb, le-ltb, ltb-true, ltb-false, [], length, length-append}
use native.Mathlib.Nat.{pow-suc}
use Rattle.definition.specs.Text.{decimal_in, show, hex_in}

-- ---- decimal

-- a last digit after the others
decimal_more : (k n : ℕ) → 10 ≤ n → decimal_in (suc k) n ≡ decimal_in k (n / 10) ++ ((48 + n % 10) ∷ [])
unfolding decimal_in
decimal_more k n h = rw (le-ltb n 10 h, decimal_in)

decimal_one : (k n : ℕ) → n < 10 → decimal_in k n ≡ (48 + n) ∷ []
unfolding decimal_in
decimal_one zero n h = refl
decimal_one (suc k) n h = rw (lt-ltb n 10 h, decimal_in)

-- any number of digits that is enough gives the same
enough : (k j n : ℕ) → n ≤ k → n ≤ j → decimal_in k n ≡ decimal_in j n
enough zero j n h l = let z : n < 10 = omega arith in decimal_one zero n z ∙ sym (decimal_one j n z)
enough (suc k) zero n h l = let z : n < 10 = omega arith in decimal_one (suc k) n z ∙ sym (decimal_one zero n z)
enough (suc k) (suc j) n h l = go (ltb n 10) refl (enough k j (n / 10))
  where
    go : (b : Bool) → ltb n 10 ≡ b → (n / 10 ≤ k → n / 10 ≤ j → decimal_in k (n / 10) ≡ decimal_in j (n / 10)) → decimal_in (suc k) n ≡ decimal_in (suc j) n
    go true e f = let z : n < 10 = ltb-true n 10 e in decimal_one (suc k) n z ∙ sym (decimal_one (suc j) n z)
    go false e f =
        let z : 10 ≤ n = ltb-false n 10 e in
        let r : decimal_in k (n / 10) ≡ decimal_in j (n / 10) = f (omega arith) (omega arith) in
        rw (decimal_more k n z, decimal_more j n z, r)

pub show_one : (n : ℕ) → n < 10 → show n ≡ (48 + n) ∷ []
unfolding show
show_one n h = decimal_one n n h

pub show_more : (n : ℕ) → 10 ≤ n → show n ≡ show (n / 10) ++ ((48 + n % 10) ∷ [])
unfolding show
show_more zero h = absurd (omega arith)
show_more (suc k) h = decimal_more k (suc k) h ∙ rw (enough k (suc k / 10) (suc k / 10) (omega arith) (omega arith))

pub show_longer : (n : ℕ) → 10 ≤ n → length (show n) ≡ length (show (n / 10)) + 1
show_longer n h = ap length (show_more n h) ∙ length-append (show (n / 10)) ((48 + n % 10) ∷ [])

-- how many digits there are
pub show_long : (k n : ℕ) → n < 10 ^ suc k → length (show n) ≤ suc k
show_long zero n h = rw (show_one n h) (omega arith)
show_long (suc k) n h = go (ltb n 10) refl (show_long k (n / 10))
  where
    go : (b : Bool) → ltb n 10 ≡ b → (n / 10 < 10 ^ suc k → length (show (n / 10)) ≤ suc k) → length (show n) ≤ suc (suc k)
    go true e f = rw (show_one n (ltb-true n 10 e)) (omega arith)
    go false e f =
        let l : n < 10 ^ suc k * 10 = rw (pow-suc 10 (suc k)) at h in
        let r : length (show (n / 10)) ≤ suc k = f (omega arith) in
        rw (show_more n (ltb-false n 10 e), length-append (show (n / 10)) ((48 + n % 10) ∷ [])) (omega arith)

pub show_short : (n : ℕ) → n < 2 ^ 32 → length (show n) ≤ 10
show_short n h = show_long 9 n (omega arith)

-- ---- hexadecimal

pub hex_long : (k n : ℕ) → length (hex_in k n) ≡ k
unfolding hex_in
hex_long zero n = refl
hex_long (suc k) n = length-append (hex_in k (n / 16)) (cond (ltb (n % 16) 10) (48 + n % 16) (87 + n % 16) ∷ []) ∙ (let e : length (hex_in k (n / 16)) ≡ k = hex_long k (n / 16) in omega arith)

pub hex_none : (k n : ℕ) → k ≡ 0 → [] ≡ hex_in k n
unfolding hex_in
hex_none k n e = rw e

pub hex_more : (k n : ℕ) → 0 < k → hex_in k n ≡ hex_in (k - 1) (n / 16) ++ (cond (ltb (n % 16) 10) (48 + n % 16) (87 + n % 16) ∷ [])
unfolding hex_in
hex_more zero n h = absurd (omega arith)
hex_more (suc k) n h = let e : suc k - 1 ≡ k = omega arith in rw e

-- ---- a float's bits

true_false : true ≡ false → ⊥
true_false e = let z : ◌≡◌ {A = ℕ} 0 1 = cc in omega arith
