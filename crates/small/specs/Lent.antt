-- The list at a place in a lent slice.
use Rattle.std.specs.Prelude.{◌≡◌, ◌∷◌}
use Rattle.laws.specs.Kit.{cond, ℕ, ltb, List, [], length}
use Rattle.definition.specs.Lists.{concat}
use Rattle.definition.specs.Call.{onto}
use Rattle.small.specs.Small.{Answer, mesh, ended, refused, answer}

-- a list as numbers: how many triangles it has, then their nodes
unfoldable pub numbers : List (List ℕ) → List ℕ
numbers l = length l ∷ concat l

-- what is returned: a refusal's number, otherwise 0
unfoldable pub number : Answer → ℕ
number (mesh l) = 0
number ended = 0
number (refused k) = k

-- what the slice holds then: a list at its front, no triangles where the order has ended,
-- and after a refusal what was there
unfoldable pub handed : Answer → List ℕ → List ℕ
handed (mesh l) old = onto (numbers l) old
handed ended old = onto (0 ∷ []) old
handed (refused k) old = old

-- refused as 4, unless as 1 before it
unfoldable pub shortened : Answer → Answer
shortened (mesh l) = refused 4
shortened ended = refused 4
shortened (refused k) = refused k

-- the answer to a caller who lends such a slice: fewer than ten numbers are too few
unfoldable pub in_slice : List ℕ → Answer → Answer
in_slice old a = cond (ltb (length old) 10) (shortened a) a

-- k is returned of the answer a, and the slice that held `old` holds `new`
pub record Written (a : Answer) (old : List ℕ) (k : ℕ) (new : List ℕ) : Type 0 where
  pub returned : k ≡ number a
  pub list : new ≡ handed a old

-- the promise of `put_small_mesh`, for n points and place p
abbrev pub Put : ℕ → ℕ → List ℕ → ℕ → List ℕ → Type 0
Put n p old k new = Written (in_slice old (answer n p)) old k new
