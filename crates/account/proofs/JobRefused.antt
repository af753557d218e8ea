-- A job that is refused as one.
use Rattle.std.specs.Prelude.{◌≡◌, ◌||◌, ◌+◌, ◌-◌, ◌*◌, ◌<◌, ◌≤◌, ◌∷◌, ◌++◌}
use Rattle.laws.specs.Kit.{refl, sym, ◌∙◌, ap, subst, inl, inr, Bool, true, false, none, ℕ, zero, suc, arith, eqb, ltb, leb, ne_eqb, le-ltb, lt-leb, leb-false, List, [], length}
use Rattle.std.proofs.Common.{div-add-mod'}
use Rattle.definition.specs.Lists.{find}
use Rattle.definition.specs.Numbers.{Settings, max_attempts}
use Rattle.definition.specs.Counts.{Counts}
use Rattle.definition.specs.Front.{Progress, stuck, progressed, limited, stopped, ran, run_front}
use Rattle.definition.specs.Call.{Asked, Lent, Lengths, finished, given_points, given_tris, given_locks, first_quads, conditions, settings_within, settings, lengths, untouched, after_run, call_within, call}
use Rattle.definition.specs.Job.{Job, most_meshes, most_allowance, share, entitled, bad_job, job_limit, rounds_of, attempts_made, charge, handed_on, JobReturned, after_mesh, run_mesh, job}
use Rattle.laws.specs.Bools.{which, or_none}
use Rattle.laws.specs.Lists.{known}

-- 16 comes before every other refusal, whatever the mesh states and lends:
-- no slice is touched, nothing is charged, and the state is handed back as it was
pub refused_first : (j : Job) (a : Asked) (l : Lent) → bad_job j ≡ true → job j a l ≡ record { returned = untouched 16 l; charged = 0; next = j }
unfolding job
refused_first j a l h = rw h refl
