-- A mesh of a job: what its call promises, by the definition's job.
use Rattle.std.specs.Prelude.{◌≡◌}
use Rattle.definition.specs.Call.{Asked, Lent}
use Rattle.definition.specs.Job.{Job, JobReturned, job_limit, job}
use Rattle.allowances.specs.States.{job_of}
use Rattle.mesher.specs.Promise.{answered, Returns, KeptAccountWithin, KeptJoints, KeptArea}
use Rattle.jobs.specs.declared.Mesh.{Mesh}

-- What the definition's job returned is what came back: the answer with the slices as they are at exit,
-- the attempts charged, and the state to hand on.
pub record JobReturns (x : JobReturned) (r : Mesh) (exit : Lent) : Type 0 where
  pub returns : Returns x.returned (answered r.answer) exit
  pub charged : r.charged ≡ x.charged
  pub next : job_of r.next ≡ x.next

-- The promise of `run_mesh` for a mesh that states a, by the job's state j, with what came back, r.
-- l is what its slices hold at entry, `exit` what they hold at exit.
pub record PromisedMesh (j : Job) (a : Asked) (l : Lent) (r : Mesh) (exit : Lent) : Type 0 where
  pub returns : JobReturns (job j a l) r exit
  pub account : KeptAccountWithin (job_limit j a) a l (answered r.answer) exit
  pub joints : KeptJoints a l (answered r.answer) exit
  pub area : KeptArea a l (answered r.answer) exit
