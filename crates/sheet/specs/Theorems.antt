-- What holds of every sheet.
use Rattle.std.specs.Prelude.{◌≡◌, ◌+◌, ◌<◌, ◌≤◌, ◌∷◌}
use Rattle.laws.specs.Kit.{refl, sym, ◌∙◌, ap, cond, none, some, ℕ, zero, suc, arith, ℕ_discrete, dec_lt, eqb, ltb, eq-eqb, ne_eqb, lt-ltb, le-ltb, List, [], map, length, get_or, length-map, Float}
use Rattle.definition.specs.Lists.{filter, numbers, below}
use Rattle.definition.specs.Floats.{◌≺◌, ◌≼◌, 0·0}
use Rattle.definition.specs.Metrics.{Metrics, absent, measured}
use Rattle.definition.specs.Call.{first_quads}
use Rattle.definition.specs.Account.{All, sum}
use Rattle.definition.specs.Sheet.{Value, bounds, place, places, counted, counts, values, worst, worst_jacobian, worst_cosine, sheet, Listed, listed_quads, all_metrics}
use Rattle.laws.specs.Lists.{numbers_length, table_length}
use Rattle.sheet_steps.specs.Counting.{counting, place_small, counts_at}
use Rattle.sheet.specs.Steps.{reached, not_reached}
use Rattle.sheet.specs.Worst.{no_values, values_none, worst_none, none_worst, FirstWorst, least_first, largest_first}

-- ---- the counts

sum_both : (f g : ℕ → ℕ) (xs : List ℕ) → sum (map (λ j. f j + g j) xs) ≡ sum (map f xs) + sum (map g xs)
unfolding sum
sum_both f g [] = refl
sum_both f g (x ∷ xs) = omega (arith, sum_both f g xs)

one_before : (k a n : ℕ) → k < a → sum (map (λ j. cond (eqb k j) 1 0) (numbers a n)) ≡ 0
unfolding sum numbers
one_before k a zero l = refl
one_before k a (suc n) l = let e = ne_eqb k a (omega arith) in rw e (let z = one_before k (suc a) n (omega arith) in omega arith)

-- a number is one of those from a on
one_among : (k a n : ℕ) → a ≤ k → k < a + n → sum (map (λ j. cond (eqb k j) 1 0) (numbers a n)) ≡ 1
unfolding sum numbers
one_among k a zero l m = absurd (omega arith)
one_among k a (suc n) l m = elim (ℕ_discrete k a) [
  | yes e ↦ let f = eq-eqb k a e in rw f (let z = one_before k (suc a) n (omega arith) in omega arith)
  | no d ↦ let f = ne_eqb k a d in rw f (let z = one_among k (suc a) n (omega arith) (omega arith) in omega arith)
]

-- the eleven counts add up to the quads
pub counts_sum : (ms : List Metrics) → sum (counts ms) ≡ length ms
unfolding counts counted places below numbers filter sum
counts_sum [] = refl
counts_sum (m ∷ ms) =
    (λ i. sum (map (λ j. counting (λ n. eqb (place n) j) m ms i) (below places)))
    ∙ sum_both (λ j. cond (eqb (place m) j) 1 0) (λ j. counted j ms) (below places)
    ∙ (let h = one_among (place m) 0 11 (omega arith) (omega (arith, place_small m)) in let g = counts_sum ms in omega arith)

-- which are those of the call
pub quads_counted : (l : Listed) → sum (sheet (all_metrics l)).counts ≡ l.count
unfolding sheet all_metrics listed_quads first_quads below
quads_counted l = counts_sum (all_metrics l) ∙ rw (length-map, table_length, numbers_length)

-- each count is the number of the quads whose place it is
pub each_counted : (ms : List Metrics) (j : ℕ) → j < 11 → get_or (sheet ms).counts j 0 ≡ length (filter (λ m. eqb (place m) j) ms)
unfolding sheet counted
each_counted ms j h = counts_at ms j h

-- which is the step that the scaled Jacobian is in: it reaches the bounds below and no other
pub in_step : (sj k : Float) (j : ℕ) → j < 9 → (get_or bounds j 0·0 ≼ sj) ≡ ltb j (place (measured sj k))
in_step sj k j h = elim (dec_lt j (place (measured sj k))) [
  | yes l ↦ reached sj k j l ∙ sym (lt-ltb j (place (measured sj k)) l)
  | no l ↦ not_reached sj k j (omega arith) h ∙ sym (le-ltb j (place (measured sj k)) (omega arith))
]

-- ---- the worst

-- no quad has metrics
abbrev pub NoMetrics : List Metrics → Type 0
NoMetrics ms = All (λ m. m ≡ absent) ms

module _ (ms : List Metrics) where
  -- the worst is absent exactly there
  pub jacobian_absent : worst_jacobian ms ≡ none → NoMetrics ms
  unfolding worst_jacobian
  jacobian_absent e = values_none (λ sj k. sj) 0 ms (worst_none (λ x y. x ≺ y) (values (λ sj k. sj) 0 ms) e)

  pub absent_jacobian : NoMetrics ms → worst_jacobian ms ≡ none
  unfolding worst_jacobian
  absent_jacobian h = ap (worst (λ x y. x ≺ y)) (no_values (λ sj k. sj) 0 ms h) ∙ none_worst (λ x y. x ≺ y)

  pub cosine_absent : worst_cosine ms ≡ none → NoMetrics ms
  unfolding worst_cosine
  cosine_absent e = values_none (λ sj k. k) 0 ms (worst_none (λ x y. y ≺ x) (values (λ sj k. k) 0 ms) e)

  pub absent_cosine : NoMetrics ms → worst_cosine ms ≡ none
  unfolding worst_cosine
  absent_cosine h = ap (worst (λ x y. y ≺ x)) (no_values (λ sj k. k) 0 ms h) ∙ none_worst (λ x y. y ≺ x)

  -- it is the first of the least scaled Jacobians
  pub jacobian_first : (v : Value) → worst_jacobian ms ≡ some v → FirstWorst (λ x y. x ≺ y) (λ x y. x ≼ y) (values (λ sj k. sj) 0 ms) v
  unfolding worst_jacobian
  jacobian_first v e = least_first (values (λ sj k. sj) 0 ms) v e

  -- the worst cosine is the first of the largest ones
  pub cosine_first : (v : Value) → worst_cosine ms ≡ some v → FirstWorst (λ x y. y ≺ x) (λ x y. y ≼ x) (values (λ sj k. k) 0 ms) v
  unfolding worst_cosine
  cosine_first v e = largest_first (values (λ sj k. k) 0 ms) v e
