-- A mesh of a job: what comes back is the definition's, by how the mesh ended.
use mathlib.Core.Path.{◌≡◌, refl, sym, ap, ◌∙◌, subst}
use mathlib.Core.Bool.{true, false}
use mathlib.Core.Logic.{◌≢◌, inl, inr}
use Prim.{absurd}
use Prim.Native.Nat.{ℕ, ◌≤◌}
use native.Mathlib.Omega.{arith}
use lib.Ieee.{binary64, fits}
use Rattle.definition.specs.Lists.{find}
use Rattle.definition.specs.Numbers.{max_attempts}
use Rattle.definition.specs.Call.{Asked, Lent, Returned, conditions, untouched}
use Rattle.definition.specs.Job as defined
use Rattle.definition.specs.Job.{entitled, bad_job, job_limit, charge, handed_on, JobReturned, after_mesh, run_mesh, job}
use Rattle.laws.specs.Lists.{known}
use Rattle.account.proofs.Jobs.{job_handed}
use Rattle.std.specs.Prelude.{Err}
use Rattle.refusals.specs.declared.named.Refusal.{Refusal}
use Rattle.refusals.specs.declared.named.Refusal.TheVariants.{BadJob}
use Rattle.refusals.specs.Numbers.{number, not_0}
use Rattle.refusals.specs.Refusals.{number_of, first_refusal, none_holds}
use Rattle.allowances.specs.declared.Job.{Job}
use Rattle.allowances.specs.States.{job_of}
use Rattle.mesher.specs.declared.run.Ran.{Ran}
use Rattle.mesher.specs.Promise.{answered, Returns, KeptAccountWithin, KeptJoints, KeptArea}
use Rattle.mesher.specs.Parts.{refused, progress_of, RanTo}
use Rattle.mesher.proofs.Ends.{call_is, untouched_returns}
use Rattle.mesher.proofs.Accounts.{all_kept}
use Rattle.jobs.specs.Jobs.{JobReturns}

-- the job's limit is no more than the usual one
pub usual : (j : defined.Job) (a : Asked) → job_limit j a ≤ max_attempts a.count
unfolding job_limit
usual j a = omega arith

-- ---- how the mesh ended

module _ (j : defined.Job) (a : Asked) (l : Lent) where
  job_bad : bad_job j ≡ true → job j a l ≡ record { returned = untouched 16 l; charged = 0; next = j }
  unfolding job
  job_bad b = rw b refl

  module _ (b : bad_job j ≡ false) where
    job_refused : (k : ℕ) → k ≡ first_refusal a l → k ≢ 0 → job j a l ≡ record { returned = untouched k l; charged = 0; next = handed_on j 0 }
    unfolding job run_mesh first_refusal number_of
    job_refused k e n = elim (known (find (λ c. c.1) (conditions a l))) [
      | inl f ↦ absurd (n (e ∙ ap number_of f))
      | inr f ↦
          let same : k ≡ f.0.0 = e ∙ ap number_of f.1 in
          rw (b, f.1, run_mesh, same) refl
    ]

    job_ran : first_refusal a l ≡ 0 → job j a l ≡ after_mesh j l (progress_of (job_limit j a) a l)
    unfolding job run_mesh
    job_ran z = rw (b, none_holds a l z, run_mesh) refl

    -- what is left is not negative
    pub charged_within : first_refusal a l ≡ 0 → charge (progress_of (job_limit j a) a l) ≤ entitled j
    unfolding after_mesh
    charged_within z = subst (λ (x : JobReturned). x.charged ≤ entitled j) (job_ran z) (job_handed j a l b).within

-- ---- what came back

-- BadJob hands the state back as it was
pub bad_returns : (s : Job) (a : Asked) (l : Lent) → bad_job (job_of s) ≡ true
    → JobReturns (job (job_of s) a l) (record { answer = Err BadJob; charged = 0; next = s }) l
bad_returns s a l b =
    subst (λ (v : JobReturned). JobReturns v (record { answer = Err BadJob; charged = 0; next = s }) l) (sym (job_bad (job_of s) a l b))
    (record { returns = untouched_returns l 16 (answered (Err BadJob)) (refused BadJob); charged = refl; next = refl })

module _ (s n : Job) (a : Asked) (l : Lent) (b : bad_job (job_of s) ≡ false) where
  -- a mesh that is refused before its run is charged nothing
  pub refused_mesh : (k : Refusal) → number k ≡ first_refusal a l → job_of n ≡ handed_on (job_of s) 0
      → JobReturns (job (job_of s) a l) (record { answer = Err k; charged = 0; next = n }) l
  refused_mesh k e next =
      subst (λ (v : JobReturned). JobReturns v (record { answer = Err k; charged = 0; next = n }) l) (sym (job_refused (job_of s) a l b (number k) e (not_0 k)))
      (record { returns = untouched_returns l (number k) (answered (Err k)) (refused k); charged = refl; next = next })

  module _ (z : first_refusal a l ≡ 0) (x : Ran) (exit : Lent) (h : RanTo (job_limit (job_of s) a) a l x exit) where
    -- one that ran
    pub ran_mesh : job_of n ≡ handed_on (job_of s) x.charged → JobReturns (job (job_of s) a l) (record { answer = x.answer; charged = x.charged; next = n }) exit
    unfolding after_mesh
    ran_mesh next =
        subst (λ (v : JobReturned). JobReturns v (record { answer = x.answer; charged = x.charged; next = n }) exit) (sym (job_ran (job_of s) a l b z))
        (record { returns = h.returns; charged = h.charged; next = next ∙ ap (handed_on (job_of s)) h.charged })

-- A run keeps its account, its joints and its area, whatever its limit.
pub ran_kept : (most : ℕ) (a : Asked) (l : Lent) → fits binary64 a.quality.largest_cosine ≡ true → first_refusal a l ≡ 0 → (x : Ran) (exit : Lent) → RanTo most a l x exit
    → KeptAccountWithin most a l (answered x.answer) exit × KeptJoints a l (answered x.answer) exit × KeptArea a l (answered x.answer) exit
ran_kept most a l f z x exit h =
    all_kept most a l f (answered x.answer) exit (subst (λ (v : Returned). Returns v (answered x.answer) exit) (sym (call_is most a l z)) h.returns)
