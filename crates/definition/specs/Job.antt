-- A job: several meshes, run in turn under one attempt allowance.
-- A small state is handed from mesh to mesh.
use Rattle.std.specs.Prelude.{Bool, ◌||◌, cond, List, ℕ, suc, ◌+◌, ◌-◌, ◌*◌, ◌/◌, min, leb, ltb, eqb, length}
use Rattle.std.proofs.Math.Option.{none, some}
use Rattle.definition.specs.Lists.{find}
use Rattle.definition.specs.Numbers.{Settings, max_attempts}
use Rattle.definition.specs.Plane.{Node, Edge}
use Rattle.definition.specs.Cells.{Tri}
use Rattle.definition.specs.Front.{State, Progress, stuck, progressed, limited, stopped, start, front_loop, outcome}
use Rattle.definition.specs.Call.{Asked, Lent, Returned, given_points, given_tris, given_locks, conditions, settings_within, untouched, after_run}

-- The job's meshes, its attempt allowance, the meshes done, and what the one before left.
-- The first mesh has nothing done and nothing left.
pub record Job : Type 0 where
  pub meshes : ℕ
  pub allowance : ℕ
  pub done : ℕ
  pub left : ℕ

-- the most meshes of a job
unfoldable pub most_meshes : ℕ
most_meshes = 16

-- the greatest allowance
unfoldable pub most_allowance : ℕ
most_allowance = 1000000

-- a mesh's own part of the allowance
unfoldable pub share : Job → ℕ
share j = j.allowance / j.meshes

-- what the next mesh is entitled to
unfoldable pub entitled : Job → ℕ
entitled j = share j + j.left

-- 16: no mesh, too many or one past their number, no allowance or one over its limit,
-- or more left than the meshes before could leave
unfoldable pub bad_job : Job → Bool
bad_job j =
    eqb j.meshes 0
    || ltb most_meshes j.meshes
    || leb j.meshes j.done
    || eqb j.allowance 0
    || ltb most_allowance j.allowance
    || ltb (j.done * share j) j.left

-- the attempt limit of the next mesh: its usual one, or what it is entitled to
unfoldable pub job_limit : Job → Asked → ℕ
job_limit j a = min (entitled j) (max_attempts a.count)

-- the rounds of a run, of which `run_front` is the outcome: the state in which they end has the attempts
unfoldable pub rounds_of : Settings → (Edge → Bool) → List Tri → List Node → Progress
rounds_of s locked ts ps = front_loop (s.attempts + 2) s (length ts) (start s locked ts ps)

-- the attempts made up to a state: one that a limit stopped was counted and not made
unfoldable pub attempts_made : State → ℕ
attempts_made st = st.counts.attempts - st.counts.limit

-- the attempts charged: those made; where want of lent memory ended the run, those begun
unfoldable pub charge : Progress → ℕ
charge (stuck st) = attempts_made st
charge (progressed st) = attempts_made st
charge (limited st) = attempts_made st
charge (stopped w st) = st.counts.attempts

-- the state after a mesh that was charged so many attempts
unfoldable pub handed_on : Job → ℕ → Job
handed_on j n = record { meshes = j.meshes; allowance = j.allowance; done = suc j.done; left = entitled j - n }

-- what the mesh's call returned, the attempts charged, and the state to hand on
pub record JobReturned : Type 0 where
  pub returned : Returned
  pub charged : ℕ
  pub next : Job

-- a mesh that ran
unfoldable pub after_mesh : Job → Lent → Progress → JobReturned
after_mesh j l p = record { returned = after_run l (outcome p); charged = charge p; next = handed_on j (charge p) }

-- a mesh that is refused before its run leaves what it was entitled to
unfoldable pub run_mesh : Job → Asked → Lent → JobReturned
run_mesh j a l =
    elim (find (λ c. c.1) (conditions a l)) [
      | none ↦ after_mesh j l (rounds_of (settings_within (job_limit j a) (length l.trace) a) (given_locks a l) (given_tris a l) (given_points a l))
      | some c ↦ record { returned = untouched c.0 l; charged = 0; next = handed_on j 0 }
    ]

-- the next mesh of the job; 16 changes nothing
unfoldable pub job : Job → Asked → Lent → JobReturned
job j a l = let go = run_mesh j a l in cond (bad_job j) (record { returned = untouched 16 l; charged = 0; next = j }) go
