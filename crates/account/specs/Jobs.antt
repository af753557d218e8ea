-- A job of several meshes: from its start, with each state handed on once,
-- the attempts made never pass the allowance.
-- Where a mesh run by itself is finished, its quads in the job are the first ones of that run.
use Rattle.std.specs.Prelude.{◌≡◌, ◌||◌, ◌+◌, ◌-◌, ◌*◌, ◌<◌, ◌≤◌, ◌∷◌, ◌++◌}
use Rattle.laws.specs.Kit.{refl, sym, ◌∙◌, ap, subst, inl, inr, Bool, true, false, none, ℕ, zero, suc, arith, eqb, ltb, leb, ne_eqb, le-ltb, lt-leb, leb-false, List, [], length}
use Rattle.std.proofs.Common.{div-add-mod'}
use Rattle.definition.specs.Lists.{find}
use Rattle.definition.specs.Numbers.{Settings, max_attempts}
use Rattle.definition.specs.Counts.{Counts}
use Rattle.definition.specs.Front.{Progress, stuck, progressed, limited, stopped, ran, run_front}
use Rattle.definition.specs.Call.{Asked, Lent, Lengths, finished, given_points, given_tris, given_locks, first_quads, conditions, settings_within, settings, lengths, untouched, after_run, call_within, call}
use Rattle.definition.specs.Job.{Job, most_meshes, most_allowance, share, entitled, bad_job, job_limit, rounds_of, attempts_made, charge, handed_on, JobReturned, after_mesh, run_mesh, job}
use Rattle.laws.specs.Bools.{which, or_none}
use Rattle.laws.specs.Lists.{known}
use Rattle.account.specs.Walks.{Ends}
use Rattle.account.specs.Smaller.{First}

-- ---- one mesh
-- the settings that the mesh runs with
abbrev pub in_job : Job → Asked → Lent → Settings
in_job j a l = settings_within (job_limit j a) (length l.trace) a

-- a mesh that is not refused with 16 hands on what it did not use
pub record Handed (j : Job) (r : JobReturned) : Type 0 where
  pub within : r.charged ≤ entitled j
  pub next_is : r.next ≡ handed_on j r.charged

-- ---- the whole job
-- the attempts charged to meshes that are handed the state in turn
unfoldable pub all_charged : Job → List (Asked × Lent) → ℕ
all_charged j [] = 0
all_charged j (x ∷ xs) = (job j x.0 x.1).charged + all_charged (job j x.0 x.1).next xs

-- a job's start
unfoldable pub job_start : ℕ → ℕ → Job
job_start meshes allowance = record { meshes = meshes; allowance = allowance; done = 0; left = 0 }

-- a finished mesh of a job
pub record FinishedFirst (j : Job) (a : Asked) (l : Lent) (n : Lengths) : Type 0 where
  pub counts : Counts
  pub lengths_in : Lengths
  pub finished_too : (job j a l).returned.answer ≡ finished counts lengths_in
  -- the quads that come back in the job, and those that come back from the call
  pub quads_first : First (first_quads lengths_in.quads (job j a l).returned.lent.quads) (first_quads n.quads (call a l).lent.quads)

-- ---- the meshes of a job in their turn
-- what each returns, with the state that the one before handed on
unfoldable pub in_turn : Job → List (Asked × Lent) → List JobReturned
in_turn j [] = []
in_turn j (x ∷ xs) = let r = job j x.0 x.1 in r ∷ in_turn r.next xs

-- the state that the last one hands on
unfoldable pub state_after : Job → List (Asked × Lent) → Job
state_after j [] = j
state_after j (x ∷ xs) = state_after (job j x.0 x.1).next xs

-- a state that a job of so many meshes and such an allowance reaches with so many done
pub record Reaches (meshes allowance done : ℕ) (j : Job) : Type 0 where
  pub meshes_are : j.meshes ≡ meshes
  pub allowance_is : j.allowance ≡ allowance
  pub done_are : j.done ≡ done
  pub left_within : j.left ≤ j.done * share j
