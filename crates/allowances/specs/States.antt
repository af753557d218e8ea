-- The state of a job, as the definition has it.
use Rattle.definition.specs.Job as defined
use Rattle.allowances.specs.declared.Job.{Job}

-- the state of a job
abbrev pub job_of : Job → defined.Job
job_of j = record { meshes = j.meshes; allowance = j.allowance; done = j.done; left = j.left }
