-- The promise of the exported function: the call of the definition,
-- with the numbers of a finished run in a slice of their own.
use Rattle.std.specs.Prelude.{◌≡◌, cond, List, ℕ, ◌<◌, ◌≤◌, eqb, length, Float}
use Rattle.definition.specs.Numbers.{Quality}
use Rattle.definition.specs.Call.{Asked, Lent, call, onto}
use Rattle.refusals.specs.Refusals.{first_refusal}
use Rattle.mesher.specs.Promise.{Reply, Returns, KeptAccount, KeptJoints, KeptArea}
use Rattle.answer_numbers.specs.Runs.{numbers, up_to_4}

-- a quality set by its five numbers
abbrev pub set_of : Float → Float → Float → Float → ℕ → Quality
set_of least_jacobian largest_cosine side_low side_high pairs =
    record { least_jacobian = least_jacobian; largest_cosine = largest_cosine; side_low = side_low; side_high = side_high; pairs = pairs }

-- what the answer's slice holds: the numbers of a finished run before what was there,
-- and after a refusal what was there
abbrev pub handed : Reply → List ℕ → List ℕ
handed r old = cond (eqb r.refusal 0) (onto (numbers r) old) old

-- With room for the numbers: r is all that the definition's call answers,
-- k is its number, and the slice has its numbers.
pub record Roomy (a : Asked) (l : Lent) (old : List ℕ) (k : ℕ) (new : List ℕ) (exit : Lent) (r : Reply) : Type 0 where
  pub returns : Returns (call a l) r exit
  pub keeps : KeptAccount a l r exit
  pub joints : KeptJoints a l r exit
  pub area : KeptArea a l r exit
  pub number : k ≡ r.refusal
  pub answer : new ≡ handed r old

-- Without: refused, and nothing is touched.
pub record Short (a : Asked) (l : Lent) (old : List ℕ) (k : ℕ) (new : List ℕ) (exit : Lent) : Type 0 where
  pub number : k ≡ up_to_4 (first_refusal a l)
  pub answer : new ≡ old
  pub lent : exit ≡ l

-- k is returned of a call that states a and lends l, with `old` in the answer's slice; `new` and `exit` are there then
pub record Exported (a : Asked) (l : Lent) (old : List ℕ) (k : ℕ) (new : List ℕ) (exit : Lent) : Type 0 where
  pub roomy : 15 ≤ length old → (r : Reply) × Roomy a l old k new exit r
  pub short : length old < 15 → Short a l old k new exit
