-- The promise of the exported mesh of a job: the job of the definition,
-- with the state in a slice of its own and the attempts charged behind it.
use Rattle.std.specs.Prelude.{◌≡◌, true, false, List, [], ◌∷◌, ℕ, ◌<◌, ◌≤◌, length}
use Rattle.definition.specs.Call.{Asked, Lent, onto}
use Rattle.definition.specs.Job.{bad_job, job_limit, job}
use Rattle.mesher.specs.Promise.{answered, KeptAccountWithin, KeptJoints, KeptArea}
use Rattle.jobs.specs.declared.Mesh.{Mesh}
use Rattle.jobs.specs.Jobs.{JobReturns}
use Rattle.answer_numbers.specs.Jobs.{state_in}
use Rattle.library.specs.Exported.{handed}

-- the state to hand on, then the attempts charged
abbrev pub job_numbers : Mesh → List ℕ
job_numbers m = m.next.meshes ∷ m.next.allowance ∷ m.next.done ∷ m.next.left ∷ m.charged ∷ []

-- A mesh that is run or refused as a call is: m is all that the definition's job answers, k is its number,
-- and the slices have its numbers.
pub record Meshed (a : Asked) (l : Lent) (js old : List ℕ) (k : ℕ) (ks new : List ℕ) (exit : Lent) (m : Mesh) : Type 0 where
  pub returns : JobReturns (job (state_in js) a l) m exit
  pub keeps : KeptAccountWithin (job_limit (state_in js) a) a l (answered m.answer) exit
  pub joints : KeptJoints a l (answered m.answer) exit
  pub area : KeptArea a l (answered m.answer) exit
  pub number : k ≡ (answered m.answer).refusal
  pub state : ks ≡ onto (job_numbers m) js
  pub answer : new ≡ handed (answered m.answer) old

-- Refused with the number n, and nothing is touched, the state neither.
pub record Untouched (n : ℕ) (l : Lent) (js old : List ℕ) (k : ℕ) (ks new : List ℕ) (exit : Lent) : Type 0 where
  pub number : k ≡ n
  pub state : ks ≡ js
  pub answer : new ≡ old
  pub lent : exit ≡ l

-- k is returned of a mesh that states a and lends l, with `js` in the job's slice and `old` in the answer's; `ks`,
-- `new` and `exit` are there then.
-- A job's slice without room for a state comes first, then 16, then an answer without room.
pub record ExportedJob (a : Asked) (l : Lent) (js old : List ℕ) (k : ℕ) (ks new : List ℕ) (exit : Lent) : Type 0 where
  pub no_state : length js < 5 → Untouched 4 l js old k ks new exit
  pub bad_state : 5 ≤ length js → bad_job (state_in js) ≡ true → Untouched 16 l js old k ks new exit
  pub short : 5 ≤ length js → bad_job (state_in js) ≡ false → length old < 15 → Untouched 4 l js old k ks new exit
  pub roomy : 5 ≤ length js → bad_job (state_in js) ≡ false → 15 ≤ length old → (m : Mesh) × Meshed a l js old k ks new exit m
