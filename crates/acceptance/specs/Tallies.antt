-- How many lists have the stored hashes.
use Rattle.std.specs.Prelude.{cond, ◌≡◌, List, [], ◌∷◌, ℕ, zero, suc, ◌+◌, ◌≤◌, eqb, length, get_or}
use Rattle.small.specs.Small.{Answer, mesh, ended, refused, answer}
use Rattle.acceptance.specs.Runs.{nodes_of, list_hash}
use Rattle.acceptance.specs.declared.runs.Triangles.{Triangles}
use Rattle.acceptance.specs.declared.lists.Tally.{Tally}

-- the list that is found; none where the order has ended, or in a refusal
unfoldable pub listed : Answer → List (List ℕ)
listed (mesh l) = l
listed ended = []
listed (refused k) = []

-- the list at a place of the order
unfoldable pub list_at : ℕ → ℕ → List (List ℕ)
list_at n p = listed (answer n p)

-- t has the triangles of l
pub record Lists (l : List (List ℕ)) (t : Triangles) : Type 0 where
  pub count : t.count ≡ length l
  pub nodes : t.nodes ≡ nodes_of l

-- 1 where there is a list
unfoldable pub present : List (List ℕ) → ℕ
present [] = 0
present (t ∷ l) = 1

-- 1 where there is one and its hash is h
unfoldable pub agrees : ℕ → List (List ℕ) → ℕ → ℕ
agrees n [] h = 0
agrees n (t ∷ l) h = cond (eqb (list_hash n (t ∷ l)) h) 1 0

-- of one list
pub record Met (n : ℕ) (l : List (List ℕ)) (h : ℕ) (t : Tally) : Type 0 where
  pub made : t.made ≡ present l
  pub agreed : t.agreed ≡ agrees n l h
  pub one : t.made ≤ 1
  pub within : t.agreed ≤ t.made

-- f 0 + .. + f (k - 1)
unfoldable pub sum_below : (ℕ → ℕ) → ℕ → ℕ
sum_below f zero = 0
sum_below f (suc k) = sum_below f k + f k

-- how many of the first k places have a list
unfoldable pub lists : ℕ → ℕ → ℕ
lists n k = sum_below (λ p. present (list_at n p)) k

-- at how many of them its hash is the stored one
unfoldable pub agreeing : ℕ → List ℕ → ℕ → ℕ
agreeing n hs k = sum_below (λ p. agrees n (list_at n p) (get_or hs p 0)) k

-- of all places that have a stored hash
pub record Tallies (n : ℕ) (hs : List ℕ) (t : Tally) : Type 0 where
  pub made : t.made ≡ lists n (length hs)
  pub agreed : t.agreed ≡ agreeing n hs (length hs)
  pub few : t.made ≤ length hs
  pub within : t.agreed ≤ t.made
