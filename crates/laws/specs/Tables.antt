-- Tables over consecutive numbers: entry by entry the same, and a test that no entry passes.
use Rattle.std.specs.Prelude.{◌≡◌, ◌+◌, ◌<◌, ◌≤◌, ◌∷◌}
use Rattle.laws.specs.Kit.{refl, ◌∙◌, ap, Bool, false, ℕ, zero, suc, arith, not-suc-le-zero, List}
use Rattle.std.proofs.Common.{le_of_suc-le-suc}
use Rattle.definition.specs.Lists.{any, table, numbers, below}
use Rattle.laws.specs.Bools.{or_none}

-- tables with the same entries
pub table_ext : {B : Type 0} (f g : ℕ → B) (a n : ℕ) → ((v : ℕ) → a ≤ v → v < a + n → f v ≡ g v) → table f (numbers a n) ≡ table g (numbers a n)
unfolding table numbers
table_ext f g a zero h = refl
table_ext {B} f g a (suc n) h =
    let e : f a ≡ g a = h a (omega arith) (omega arith) in
    rw e (ap (λ (l : List B). g a ∷ l) (table_ext f g (suc a) n (λ v x y. h v (omega arith) (omega arith))))

module _ {A : Type 0} (p : A → Bool) where
  any_from : (f : ℕ → A) (k n : ℕ) → ((i : ℕ) → i < n → p (f (k + i)) ≡ false) → any p (table f (numbers k n)) ≡ false
  unfolding any table numbers
  any_from f k zero h = refl
  any_from f k (suc n) h =
      let e : p (f k) ≡ false = ap (λ i. p (f i)) (omega arith) ∙ h 0 (omega arith) in
      rw e (any_from f (suc k) n (λ i l. ap (λ i. p (f i)) (omega arith) ∙ h (suc i) (omega arith)))

  from_any : (f : ℕ → A) (k n : ℕ) → any p (table f (numbers k n)) ≡ false → (i : ℕ) → i < n → p (f (k + i)) ≡ false
  unfolding any table numbers
  from_any f k zero h i l = absurd (not-suc-le-zero l)
  from_any f k (suc n) h zero l = ap (λ i. p (f i)) (omega arith) ∙ (or_none (p (f k)) (any p (table f (numbers (suc k) n))) h).0
  from_any f k (suc n) h (suc i) l =
      ap (λ i. p (f i)) (omega arith) ∙ from_any f (suc k) n (or_none (p (f k)) (any p (table f (numbers (suc k) n))) h).1 i (le_of_suc-le-suc l)

  -- no entry below n passes
  pub none_below : (f : ℕ → A) (n : ℕ) → ((i : ℕ) → i < n → p (f i) ≡ false) → any p (table f (below n)) ≡ false
  unfolding below
  none_below f n h = any_from f 0 n (λ i l. ap (λ i. p (f i)) (omega arith) ∙ h i l)

  pub below_none : (f : ℕ → A) (n : ℕ) → any p (table f (below n)) ≡ false → (i : ℕ) → i < n → p (f i) ≡ false
  unfolding below
  below_none f n h i l = ap (λ i. p (f i)) (omega arith) ∙ from_any f 0 n h i l
