-- The state of a job in a slice.
use Rattle.std.specs.Prelude.{List, ℕ, get_or}
use Rattle.definition.specs.Job.{Job}

-- the state in a job's slice
abbrev pub state_in : List ℕ → Job
state_in js = record { meshes = get_or js 0 0; allowance = get_or js 1 0; done = get_or js 2 0; left = get_or js 3 0 }
