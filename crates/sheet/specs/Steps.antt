-- The steps: a scaled Jacobian reaches exactly the bounds below its step, since the bounds ascend.
use Rattle.std.specs.Prelude.{◌≡◌, ◌<◌, ◌≤◌, ◌∷◌}
use Rattle.laws.specs.Kit.{refl, inl, inr, Bool, true, false, ℕ, zero, suc, arith, List, [], length, get_or, Float, of_bits, le}
use Rattle.definition.specs.Lists.{filter}
use Rattle.definition.specs.Floats.{◌≼◌, f64, 0·0, 0·1, 0·2, 0·3, 0·4, 0·5, 0·6, 0·7, 0·8, 0·9}
use Rattle.definition.specs.Metrics.{measured}
use Rattle.definition.specs.Account.{All, Pairwise}
use Rattle.definition.specs.Sheet.{bounds, place}
use Rattle.laws.specs.Bools.{which, never, fails, holds}
use Rattle.rounding.proofs.Keys.{le_trans}
use Rattle.sheet_steps.specs.Counting.{counting, counting_none}

-- ---- a test that, once failed, fails for all that follow

module _ {A : Type 0} (p : A → Bool) where
  -- who passes has all before it pass
  abbrev Falling : List A → Type 0
  Falling xs = Pairwise (λ x y. p y ≡ true → p x ≡ true) xs

  none_after : (x : A) (xs : List A) → p x ≡ false → All (λ y. p y ≡ true → p x ≡ true) xs → length (filter p xs) ≡ 0
  none_after x [] e h = counting_none p
  none_after x (y ∷ ys) e h =
      let f = fails (p y) (λ t. never (p x) (h.0 t) e) in
      let c = rw f at (counting p y ys) in
      let n = none_after x ys e h.1 in
      omega arith

  passes_below : (xs : List A) (d : A) → Falling xs → (j : ℕ) → j < length (filter p xs) → p (get_or xs j d) ≡ true
  passes_below [] d h j l = absurd (omega (arith, counting_none p))
  passes_below (x ∷ xs) d h zero l = holds (p x) (λ e. let c = rw e at (counting p x xs) in let n = none_after x xs e h.0 in omega arith)
  passes_below (x ∷ xs) d h (suc j) l = elim (which (p x)) [
    | inl t ↦ let c = rw t at (counting p x xs) in passes_below xs d h.1 j (omega arith)
    | inr e ↦ absurd (let c = rw e at (counting p x xs) in let n = none_after x xs e h.0 in omega arith)
  ]

  fails_from : (xs : List A) (d : A) → Falling xs → (j : ℕ) → length (filter p xs) ≤ j → j < length xs → p (get_or xs j d) ≡ false
  fails_from [] d h j l k = absurd (omega arith)
  fails_from (x ∷ xs) d h zero l k = fails (p x) (λ t. let c = rw t at (counting p x xs) in omega arith)
  fails_from (x ∷ xs) d h (suc j) l k = elim (which (p x)) [
    | inl t ↦ let c = rw t at (counting p x xs) in fails_from xs d h.1 j (omega arith) (omega arith)
    | inr e ↦ let n = none_after x xs e h.0 in fails_from xs d h.1 j (omega arith) (omega arith)
  ]

-- ---- the bounds

-- each is at most the next
abbrev Rising : Float → List Float → Type 0
Rising b [] = Unit {0}
Rising b (c ∷ cs) = ((b ≼ c) ≡ true) × Rising c cs

abbrev later : List Float
later = 0·2 ∷ 0·3 ∷ 0·4 ∷ 0·5 ∷ 0·6 ∷ 0·7 ∷ 0·8 ∷ 0·9 ∷ []

rising : Rising 0·1 later
unfolding ◌≼◌ le of_bits f64 0·1 0·2 0·3 0·4 0·5 0·6 0·7 0·8 0·9
rising = (refl, (refl, (refl, (refl, (refl, (refl, (refl, (refl, tt))))))))

module _ (sj : Float) where
  all_falling : (a b : Float) (bs : List Float) → ((b ≼ sj) ≡ true → (a ≼ sj) ≡ true) → Rising b bs → All (λ c. (c ≼ sj) ≡ true → (a ≼ sj) ≡ true) bs
  all_falling a b [] f h = tt
  all_falling a b (c ∷ cs) f h = (λ t. f (le_trans b c sj h.0 t), all_falling a c cs (λ t. f (le_trans b c sj h.0 t)) h.1)

  falling : (b : Float) (bs : List Float) → Rising b bs → Falling (λ b. b ≼ sj) (b ∷ bs)
  falling b [] h = (tt, tt)
  falling b (c ∷ cs) h = (all_falling b b (c ∷ cs) (λ t. t) h, falling c cs h.1)

  -- the bounds below the step are reached: they count upward
  pub reached : (k : Float) (j : ℕ) → j < place (measured sj k) → (get_or bounds j 0·0 ≼ sj) ≡ true
  unfolding place bounds
  reached k j l = passes_below (λ b. b ≼ sj) bounds 0·0 (falling 0·1 later rising) j l

  -- the bounds from the step on are not reached
  pub not_reached : (k : Float) (j : ℕ) → place (measured sj k) ≤ j → j < 9 → (get_or bounds j 0·0 ≼ sj) ≡ false
  unfolding place bounds
  not_reached k j l m = fails_from (λ b. b ≼ sj) bounds 0·0 (falling 0·1 later rising) j l m
