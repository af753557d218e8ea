-- A sheet's numbers in a lent slice.
use Rattle.std.specs.Prelude.{◌≡◌, ◌||◌, ◌∷◌, ◌++◌}
use Rattle.laws.specs.Kit.{cond, ℕ, ltb, List, [], length, Float}
use Rattle.definition.specs.Call.{onto, most_slots, most_capacity}
use Rattle.definition.specs.Sheet.{Sheet, Listed, Answer, Returned, filed, refusal, call}
use Rattle.sheet_steps.specs.Values.{quad_of}
use Rattle.sheet.specs.Promise.{number_of}

-- eleven counts, then the quads that have the worst scaled Jacobian and the worst cosine
unfoldable pub numbers : ℕ → Sheet → List ℕ
numbers n s = s.counts ++ quad_of n s.jacobian ∷ quad_of n s.cosine ∷ []

-- the refusal of an answer that is too short: 1 comes before 4
unfoldable pub short_number : ℕ → ℕ → ℕ
short_number given count = cond (ltb most_slots count || ltb most_capacity given) 1 4

-- the call of who lends such an answer: fewer than thirteen numbers are too few
unfoldable pub lent_call : Listed → List ℕ → Returned
lent_call l old = cond (ltb (length old) 13) (record { answer = refusal (short_number l.given l.count); out = l.out }) (call l)

-- what the answer holds then: a sheet's numbers at its front, and after a refusal what was there
unfoldable pub handed : ℕ → Answer → List ℕ → List ℕ
handed n (filed s) old = onto (numbers n s) old
handed n (refusal k) old = old

-- the promise of `put_sheet`: k is returned, the answer holds `new`, and `out` the values
pub record Put (l : Listed) (old : List ℕ) (k : ℕ) (new : List ℕ) (exit : List Float) : Type 0 where
  pub number : k ≡ number_of (lent_call l old).answer
  pub numbers : new ≡ handed l.count (lent_call l old).answer old
  pub out : exit ≡ (lent_call l old).out
