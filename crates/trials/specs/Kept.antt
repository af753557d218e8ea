-- The trials that the code keeps in two arrays, as a list of the definition's.
use Rattle.std.specs.Prelude.{◌≡◌, Bool, true, not, List, [], ◌∷◌, ◌++◌, ℕ, ◌+◌, ◌-◌, ◌*◌, ◌≤◌, ◌<◌, T, length, take, drop, get_or, Float}
use Rattle.std.proofs.Common.{ap, ◌∙◌, arith}
use Rattle.std.specs.Float.{nan}
use Rattle.std.specs.Float.Ieee.{is_nan}
use Rattle.definition.specs.Account.{All}
use Rattle.definition.specs.Cells.{Quad, new_quad}
use Rattle.definition.specs.Floats.{◌≺◌, ◌≼◌}
use Rattle.definition.specs.Lists.{insert, table, below}
use Rattle.definition.specs.Trials as trials
use Rattle.definition.specs.Trials.{trial_before}
use Rattle.laws.specs.Lists.{numbers_length, table_length, table_at}
use Rattle.trials.specs.declared.kept.Trial.{Trial}

-- how many the arrays have room for
abbrev pub room : ℕ
room = 64

-- the four nodes
unfoldable pub quad_of : Trial → Quad
quad_of t = new_quad t.n0 t.n1 t.n2 t.n3

-- the score and the four nodes
unfoldable pub trial_of : Trial → trials.Trial
trial_of t = record { score = t.score; nodes = quad_of t }

-- the quad at i
unfoldable pub quad_at : List ℕ → ℕ → Quad
quad_at nodes i = new_quad (get_or nodes (4 * i) 0) (get_or nodes (4 * i + 1) 0) (get_or nodes (4 * i + 2) 0) (get_or nodes (4 * i + 3) 0)

-- the trial at i
unfoldable pub row : List Float → List ℕ → ℕ → trials.Trial
row scores nodes i = record { score = get_or scores i nan; nodes = quad_at nodes i }

-- the first k
unfoldable pub listed : List Float → List ℕ → ℕ → List trials.Trial
listed scores nodes k = table (row scores nodes) (below k)

pub length_listed : (scores : List Float) (nodes : List ℕ) (k : ℕ) → length (listed scores nodes k) ≡ k
unfolding listed below
length_listed scores nodes k = table_length (row scores nodes) _ ∙ numbers_length 0 k

pub listed_at : (scores : List Float) (nodes : List ℕ) (k i : ℕ) (d : trials.Trial) → i < k → get_or (listed scores nodes k) i d ≡ row scores nodes i
unfolding listed below
listed_at scores nodes k i d h = table_at (row scores nodes) 0 k i d h ∙ ap (row scores nodes) (omega arith)

-- whatever the arrays hold
abbrev pub all : List Float → List ℕ → List trials.Trial
all scores nodes = listed scores nodes room

-- the first k, of at most so many, are the list
pub record Keeps (scores : List Float) (nodes : List ℕ) (most k : ℕ) (l : List trials.Trial) : Type 0 where
  pub few : k ≤ most
  pub list : listed scores nodes k ≡ l

-- x stands at i
pub record Stands (l : List trials.Trial) (i : ℕ) (x : trials.Trial) : Type 0 where
  pub at : (d : trials.Trial) → get_or l i d ≡ x

-- x after the first p
unfoldable pub put : {A : Type 0} → ℕ → A → List A → List A
put p x l = take p l ++ x ∷ drop p l

-- insertion puts x after the first p
pub record Place (x : trials.Trial) (l : List trials.Trial) (count p : ℕ) : Type 0 where
  pub within : p ≤ count
  pub there : insert trial_before x l ≡ put p x l

-- the list with each element of xs inserted, the last one first
unfoldable pub onto : {A : Type 0} → (A → A → Bool) → List A → List A → List A
onto before [] l = l
onto before (x ∷ xs) l = insert before x (onto before xs l)

-- ---- in the order of the scores

-- the score is no NaN
abbrev pub Number : trials.Trial → Type 0
Number t = T (not (is_nan t.score))

-- y's score is at most x's
abbrev pub NoBetter : trials.Trial → trials.Trial → Type 0
NoBetter x y = (y.score ≼ x.score) ≡ true

-- the scores are numbers and do not rise
abbrev pub Falling : List trials.Trial → Type 0
Falling [] = Unit {0}
Falling (x ∷ l) = Number x × All (NoBetter x) l × Falling l

-- so many as are wanted are kept, and x is below the last one's score
pub record Outdone (scores : List Float) (count pairs : ℕ) (x : Float) : Type 0 where
  pub full : count ≡ pairs
  pub some : 0 < count
  pub below_last : (x ≺ get_or scores (count - 1) nan) ≡ true
