-- Insertion into a sorted list of which only the first n are kept. No law of the order is used.
use mathlib.Core.Path.{◌≡◌, refl, ap, sym, ◌∙◌}
use mathlib.Core.Bool.{Bool, true, false, cond}
use mathlib.Core.List.{List, [], ◌∷◌, ◌++◌}
use Prim.Native.Nat.{ℕ, zero, suc, ◌≤◌, ◌<◌}
use native.Mathlib.Nat.{le_of_suc-le-suc, not-suc-le-zero}
use native.Mathlib.Omega.{arith}
use lib.ListN.{length, take, drop, get_or, set}
use lib.Seq.{take-take}
use Rattle.definition.specs.Lists.{insert, sort}
use Rattle.trials.specs.Kept.{put, onto}

-- ---- where an element goes

module _ {A : Type 0} (before : A → A → Bool) (x : A) where
  -- an element that comes before x is passed
  pub passed : (l : List A) (p : ℕ) (d : A) → p < length l → before (get_or l p d) x ≡ true
      → take p l ++ insert before x (drop p l) ≡ take (suc p) l ++ insert before x (drop (suc p) l)
  unfolding insert
  passed [] p d h e = absurd (not-suc-le-zero h)
  passed (y ∷ ys) zero d h e = rw e
  passed (y ∷ ys) (suc p) d h e = ap (λ (t : List A). y ∷ t) (passed ys p d (le_of_suc-le-suc h) e)

  -- x goes before one that does not
  pub stopped : (l : List A) (p : ℕ) (d : A) → p < length l → before (get_or l p d) x ≡ false
      → take p l ++ insert before x (drop p l) ≡ put p x l
  unfolding insert put
  stopped [] p d h e = absurd (not-suc-le-zero h)
  stopped (y ∷ ys) zero d h e = rw e
  stopped (y ∷ ys) (suc p) d h e = ap (λ (t : List A). y ∷ t) (stopped ys p d (le_of_suc-le-suc h) e)

  -- and at the end
  pub ended : (l : List A) (p : ℕ) → length l ≤ p → take p l ++ insert before x (drop p l) ≡ put p x l
  unfolding insert put
  ended [] zero h = refl
  ended [] (suc p) h = refl
  ended (y ∷ ys) zero h = absurd (not-suc-le-zero h)
  ended (y ∷ ys) (suc p) h = ap (λ (t : List A). y ∷ t) (ended ys p (le_of_suc-le-suc h))

-- ---- an element put in the middle

module _ {A : Type 0} where
  -- one step of pushing the others back
  pub pushed : (l : List A) (i : ℕ) (x d : A) → i < length l → put i x l ≡ put (suc i) (get_or l i d) (set l i x)
  unfolding put
  pushed [] i x d h = absurd (not-suc-le-zero h)
  pushed (y ∷ ys) zero x d h = refl
  pushed (y ∷ ys) (suc i) x d h = ap (λ (t : List A). y ∷ t) (pushed ys i x d (le_of_suc-le-suc h))

  -- the last of the pushed ones is stored
  pub stored : (l : List A) (i : ℕ) (x : A) → i < length l → take (suc i) (put i x l) ≡ take (suc i) (set l i x)
  unfolding put
  stored [] i x h = absurd (not-suc-le-zero h)
  stored (y ∷ ys) zero x h = refl
  stored (y ∷ ys) (suc i) x h = ap (λ (t : List A). y ∷ t) (stored ys i x (le_of_suc-le-suc h))

  -- or dropped
  pub dropped : (l : List A) (i : ℕ) (x : A) → i ≤ length l → take i (put i x l) ≡ take i l
  unfolding put
  dropped l zero x h = refl
  dropped [] (suc i) x h = absurd (not-suc-le-zero h)
  dropped (y ∷ ys) (suc i) x h = ap (λ (t : List A). y ∷ t) (dropped ys i x (le_of_suc-le-suc h))

  -- only the first c count
  pub put_take : (l : List A) (p c : ℕ) (x : A) → p ≤ c → put p x (take c l) ≡ take (suc c) (put p x l)
  unfolding put
  put_take l zero c x h = refl
  put_take l (suc p) zero x h = absurd (not-suc-le-zero h)
  put_take [] (suc p) (suc c) x h = refl
  put_take (y ∷ ys) (suc p) (suc c) x h = ap (λ (t : List A). y ∷ t) (put_take ys p c x (le_of_suc-le-suc h))

  pub length_put : (l : List A) (p : ℕ) (x : A) → length (put p x l) ≡ suc (length l)
  unfolding put
  length_put l zero x = refl
  length_put [] (suc p) x = refl
  length_put (y ∷ ys) (suc p) x = ap suc (length_put ys p x)

-- ---- the first n after insertion

-- either case of a test
either : {A : Type 0} (b : Bool) (n : ℕ) (s t u v : List A) → take n s ≡ take n t → take n u ≡ take n v → take n (cond b s u) ≡ take n (cond b t v)
either true n s t u v e f = e
either false n s t u v e f = f

cons_take : {A : Type 0} (n : ℕ) (y : A) (ys : List A) → take n (y ∷ take n ys) ≡ take n (y ∷ ys)
cons_take zero y ys = refl
cons_take (suc n) y ys = ap (λ t. y ∷ t) (take-take n (suc n) ys (omega arith))

module _ {A : Type 0} (before : A → A → Bool) where
  -- what stands past the first n is of no account
  pub insert_take : (n : ℕ) (x : A) (l : List A) → take n (insert before x (take n l)) ≡ take n (insert before x l)
  unfolding insert
  insert_take zero x l = refl
  insert_take (suc n) x [] = refl
  insert_take (suc n) x (y ∷ ys) =
      either (before y x) (suc n) _ _ _ _ (ap (λ (t : List A). y ∷ t) (insert_take n x ys)) (ap (λ (t : List A). x ∷ t) (cons_take n y ys))

  pub onto_take : (n : ℕ) (xs l : List A) → take n (onto before xs (take n l)) ≡ take n (onto before xs l)
  unfolding onto
  onto_take n [] l = take-take n n l (omega arith)
  onto_take n (x ∷ xs) l =
      sym (insert_take n x (onto before xs (take n l)))
      ∙ ap (λ (t : List A). take n (insert before x t)) (onto_take n xs l)
      ∙ insert_take n x (onto before xs l)

  pub onto_append : (xs ys l : List A) → onto before (xs ++ ys) l ≡ onto before xs (onto before ys l)
  unfolding onto
  onto_append [] ys l = refl
  onto_append (x ∷ xs) ys l = ap (insert before x) (onto_append xs ys l)

  -- a sort begins with no element
  pub sort_onto : (xs : List A) → sort before xs ≡ onto before xs []
  unfolding sort onto
  sort_onto [] = refl
  sort_onto (x ∷ xs) = ap (insert before x) (sort_onto xs)

  -- one more list in front of those that are inserted
  pub one_more : (n : ℕ) (xs ys l : List A) {r s : List A} → r ≡ take n (onto before ys l) → s ≡ take n (onto before xs r) → s ≡ take n (onto before (xs ++ ys) l)
  one_more n xs ys l e f = f ∙ ap (λ (t : List A). take n (onto before xs t)) e ∙ onto_take n xs (onto before ys l) ∙ ap (take n) (sym (onto_append xs ys l))
