-- How many elements of a list pass a test, and the counts of a sheet.
use Rattle.std.specs.Prelude.{◌≡◌, ◌+◌, ◌<◌, ◌≤◌, ◌∷◌}
use Rattle.laws.specs.Kit.{refl, ◌∙◌, ap, Bool, true, false, cond, ℕ, zero, suc, arith, eqb, List, [], map, length, get_or, length-map, Float}
use Rattle.definition.specs.Lists.{filter, numbers, below}
use Rattle.definition.specs.Floats.{◌≼◌}
use Rattle.definition.specs.Metrics.{Metrics, absent, measured}
use Rattle.definition.specs.Sheet.{bounds, place, places, counted, counts}
use Rattle.laws.specs.Lists.{numbers_length}
use Rattle.laws.specs.Bools.{at_most_one}

module _ {A : Type 0} where
  one_more : (b : Bool) (x : A) (xs : List A) → length (cond b (x ∷ xs) xs) ≡ cond b 1 0 + length xs
  one_more true x xs = omega arith
  one_more false x xs = omega arith

  pub counting : (p : A → Bool) (x : A) (xs : List A) → length (filter p (x ∷ xs)) ≡ cond (p x) 1 0 + length (filter p xs)
  unfolding filter
  counting p x xs = one_more (p x) x (filter p xs)

  pub counting_none : (p : A → Bool) → length (filter p []) ≡ 0
  unfolding filter
  counting_none p = refl

  -- no more than there are
  pub counting_few : (p : A → Bool) (xs : List A) → length (filter p xs) ≤ length xs
  counting_few p [] = omega (arith, counting_none p)
  counting_few p (x ∷ xs) = omega (arith, counting p x xs, at_most_one (p x), counting_few p xs)

-- ---- the counts of a sheet

pub map_at : {B : Type 0} (f : ℕ → B) (a n v : ℕ) (d : B) → v < n → get_or (map f (numbers a n)) v d ≡ f (a + v)
unfolding numbers
map_at f a zero v d h = absurd (omega arith)
map_at f a (suc n) zero d h = ap f (omega arith)
map_at f a (suc n) (suc v) d h = map_at f (suc a) n v d (omega arith) ∙ ap f (omega arith)

-- a quad with metrics has one of the ten steps
pub step_small : (sj k : Float) → place (measured sj k) < 10
unfolding place bounds
step_small sj k = let h = counting_few (λ b. b ≼ sj) bounds in omega arith

-- every quad has one of the eleven places
pub place_small : (m : Metrics) → place m < 11
unfolding place
place_small absent = omega arith
place_small (measured sj k) = omega (arith, step_small sj k)

module _ (ms : List Metrics) where
  -- what stands at place j
  pub counts_at : (j : ℕ) → j < 11 → get_or (counts ms) j 0 ≡ counted j ms
  unfolding counts places below
  counts_at j h = map_at (λ j. counted j ms) 0 11 j 0 h ∙ ap (λ k. counted k ms) (omega arith)

  pub counts_length : length (counts ms) ≡ 11
  unfolding counts places below
  counts_length = rw (length-map, numbers_length)

  -- no more than there are quads
  pub counts_few : (j : ℕ) → j < 11 → get_or (counts ms) j 0 ≤ length ms
  unfolding counted
  counts_few j h = omega (arith, counts_at j h, counting_few (λ m. eqb (place m) j) ms)
