-- The sums that the code makes, one stored answer after the other.
use mathlib.Core.Path.{◌≡◌}
use mathlib.Core.List.{List, [], ◌∷◌}
use Prim.Native.Nat.{ℕ, ◌+◌, ◌≤◌}
use native.Mathlib.Omega.{arith}
use Rattle.definition.specs.Text.{bytes}
use Rattle.replay.specs.Agreeing.{Case, agrees, agreeing}

-- m is n and as many of the others as agree
pub record Counts (m n : ℕ) (l : List Case) : Type 0 where
  pub sum : m ≡ n + agreeing l

-- nothing is left to count
pub counted : {n : ℕ} → Counts n n []
unfolding agreeing
counted = record { sum = omega arith }

-- one more is counted, and then the others
pub one_more : {m n r : ℕ} {c : Case} {l : List Case} → r ≡ agrees (bytes c.text) (bytes c.answer) → Counts m (n + r) l → Counts m n (c ∷ l)
unfolding agreeing
one_more e f = record { sum = omega (arith, e, f.sum) }

-- all are counted, from nothing on
pub all_counted : {m : ℕ} {l : List Case} → Counts m 0 l → m ≡ agreeing l
all_counted f = omega (arith, f.sum)

-- ---- no more than were counted

pub first : {r : ℕ} → r ≤ 1 → 0 + r ≤ 1
first h = omega arith

pub next : (k : ℕ) {n r : ℕ} → r ≤ 1 → n ≤ k → n + r ≤ k + 1
next k h l = omega arith
