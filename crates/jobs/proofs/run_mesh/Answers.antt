-- Refused as no job's state, refused as a call is, or the run with the job's limit; the account, the joints and the area follow from what came back.
use Rattle.std.specs.Prelude.{◌≡◌, true, false, ℕ, ◌≤◌}
use Rattle.std.specs.Float.{binary64}
use Rattle.std.specs.Float.Ieee.{fits}
use Rattle.laws.specs.Kit.{refl, sym, ◌∙◌, ap, subst, arith}
use Rattle.definition.specs.Job.{bad_job, job_limit}
use Rattle.refusals.specs.Numbers.{number_or_0}
use Rattle.refusals.specs.Refusals.{first_refusal, passed}
use Rattle.refusals.specs.Stated.{asked}
use Rattle.allowances.specs.States.{job_of}
use Rattle.mesher.specs.Promise.{lent_of}
use Rattle.mesher.specs.Parts.{RanTo}
use Rattle.jobs.proofs.Meshes.{usual, charged_within, bad_returns, refused_mesh, ran_mesh, ran_kept}
use Rattle.jobs.proofs.run_mesh.Goals as goal

pub returns-then-bad_job-clause-job_returns : goal.returns-then-bad_job-clause-job_returns
returns-then-bad_job-clause-job_returns c =
    let a = c.args in
    let s = asked a.stated in
    let l = lent_of a.points.now a.triangles.now a.joints.now a.quads.now a.triangles_out.now a.components.now a.work.now a.float_work.now a.trace.now in
    bad_returns a.state s l (sym c.bad_job.ensures ∙ c.if-bad_job.true)

pub returns-in-Err-clause-job_returns : goal.returns-in-Err-clause-job_returns
returns-in-Err-clause-job_returns c =
    let a = c.args in
    let s = asked a.stated in
    let l = lent_of a.points.now a.triangles.now a.joints.now a.quads.now a.triangles_out.now a.components.now a.work.now a.float_work.now a.trace.now in
    let first = c.refusal.ensures l (record { points = refl; triangles = refl; joints = refl; quads = refl; triangles_out = refl; components = refl; work = refl; float_work = refl }) in
    let good : bad_job (job_of a.state) ≡ false = sym c.bad_job.ensures ∙ c.if-bad_job.false in
    refused_mesh a.state c.handed_on.result s l good c.in-Err.k (sym (ap number_or_0 c.in-Err.is) ∙ first) c.handed_on.ensures

pub limit_of-most-requires-clause-stated_bound : goal.limit_of-most-requires-clause-stated_bound
limit_of-most-requires-clause-stated_bound c =
    let a = c.args in
    let s = asked a.stated in
    let l = lent_of a.points.now a.triangles.now a.joints.now a.quads.now a.triangles_out.now a.components.now a.work.now a.float_work.now a.trace.now in
    let first = c.refusal.ensures l (record { points = refl; triangles = refl; joints = refl; quads = refl; triangles_out = refl; components = refl; work = refl; float_work = refl }) in
    let passes : first_refusal s l ≡ 0 = sym first ∙ ap number_or_0 c.in_default.is in
    (passed s l passes).limited.count

pub run-ran-requires-clause-attempts_bound : goal.run-ran-requires-clause-attempts_bound
run-ran-requires-clause-attempts_bound c = omega (arith, c.limit_of-most.ensures, usual (job_of c.args.state) (asked c.args.stated))

pub handed_on-requires-2-clause-charged_bound : goal.handed_on-requires-2-clause-charged_bound
handed_on-requires-2-clause-charged_bound c =
    let a = c.args in
    let s = asked a.stated in
    let l = lent_of a.points.now a.triangles.now a.joints.now a.quads.now a.triangles_out.now a.components.now a.work.now a.float_work.now a.trace.now in
    let first = c.refusal.ensures l (record { points = refl; triangles = refl; joints = refl; quads = refl; triangles_out = refl; components = refl; work = refl; float_work = refl }) in
    let passes : first_refusal s l ≡ 0 = sym first ∙ ap number_or_0 c.in_default.is in
    let good : bad_job (job_of a.state) ≡ false = sym c.bad_job.ensures ∙ c.if-bad_job.false in
    let d = c.run-ran.new in
    let exit = lent_of d.points a.triangles.now a.joints.now d.quads d.triangles_out d.components d.work d.float_work d.trace in
    let to = subst (λ (most : ℕ). RanTo most s l c.run-ran.result exit) c.limit_of-most.ensures c.run-ran.ensures in
    omega (arith, to.charged, charged_within (job_of a.state) s l good passes)

pub returns-clause-job_returns : goal.returns-clause-job_returns
returns-clause-job_returns c =
    let a = c.args in
    let s = asked a.stated in
    let l = lent_of a.points.now a.triangles.now a.joints.now a.quads.now a.triangles_out.now a.components.now a.work.now a.float_work.now a.trace.now in
    let first = c.refusal.ensures l (record { points = refl; triangles = refl; joints = refl; quads = refl; triangles_out = refl; components = refl; work = refl; float_work = refl }) in
    let passes : first_refusal s l ≡ 0 = sym first ∙ ap number_or_0 c.in_default.is in
    let good : bad_job (job_of a.state) ≡ false = sym c.bad_job.ensures ∙ c.if-bad_job.false in
    let d = c.run-ran.new in
    let exit = lent_of d.points a.triangles.now a.joints.now d.quads d.triangles_out d.components d.work d.float_work d.trace in
    let to = subst (λ (most : ℕ). RanTo most s l c.run-ran.result exit) c.limit_of-most.ensures c.run-ran.ensures in
    ran_mesh a.state c.handed_on-2.result s l good passes c.run-ran.result exit to c.handed_on-2.ensures

pub returns-clause-kept_account_within : goal.returns-clause-kept_account_within
returns-clause-kept_account_within c =
    let a = c.args in
    let s = asked a.stated in
    let l = lent_of a.points.now a.triangles.now a.joints.now a.quads.now a.triangles_out.now a.components.now a.work.now a.float_work.now a.trace.now in
    let first = c.refusal.ensures l (record { points = refl; triangles = refl; joints = refl; quads = refl; triangles_out = refl; components = refl; work = refl; float_work = refl }) in
    let passes : first_refusal s l ≡ 0 = sym first ∙ ap number_or_0 c.in_default.is in
    let double : fits binary64 s.quality.largest_cosine ≡ true = let owned = c.well_formed.1.1.1.1.1.1.1.1.1.1.0.1.1 in let quality = owned.1.1.1.1.1.1.1.0.1.1 in quality.1.0.1 in
    let d = c.run-ran.new in
    let exit = lent_of d.points a.triangles.now a.joints.now d.quads d.triangles_out d.components d.work d.float_work d.trace in
    let to = subst (λ (most : ℕ). RanTo most s l c.run-ran.result exit) c.limit_of-most.ensures c.run-ran.ensures in
    (ran_kept (job_limit (job_of a.state) s) s l double passes c.run-ran.result exit to).0

pub returns-clause-kept_joints : goal.returns-clause-kept_joints
returns-clause-kept_joints c =
    let a = c.args in
    let s = asked a.stated in
    let l = lent_of a.points.now a.triangles.now a.joints.now a.quads.now a.triangles_out.now a.components.now a.work.now a.float_work.now a.trace.now in
    let first = c.refusal.ensures l (record { points = refl; triangles = refl; joints = refl; quads = refl; triangles_out = refl; components = refl; work = refl; float_work = refl }) in
    let passes : first_refusal s l ≡ 0 = sym first ∙ ap number_or_0 c.in_default.is in
    let double : fits binary64 s.quality.largest_cosine ≡ true = let owned = c.well_formed.1.1.1.1.1.1.1.1.1.1.0.1.1 in let quality = owned.1.1.1.1.1.1.1.0.1.1 in quality.1.0.1 in
    let d = c.run-ran.new in
    let exit = lent_of d.points a.triangles.now a.joints.now d.quads d.triangles_out d.components d.work d.float_work d.trace in
    let to = subst (λ (most : ℕ). RanTo most s l c.run-ran.result exit) c.limit_of-most.ensures c.run-ran.ensures in
    (ran_kept (job_limit (job_of a.state) s) s l double passes c.run-ran.result exit to).1

pub returns-clause-kept_area : goal.returns-clause-kept_area
returns-clause-kept_area c =
    let a = c.args in
    let s = asked a.stated in
    let l = lent_of a.points.now a.triangles.now a.joints.now a.quads.now a.triangles_out.now a.components.now a.work.now a.float_work.now a.trace.now in
    let first = c.refusal.ensures l (record { points = refl; triangles = refl; joints = refl; quads = refl; triangles_out = refl; components = refl; work = refl; float_work = refl }) in
    let passes : first_refusal s l ≡ 0 = sym first ∙ ap number_or_0 c.in_default.is in
    let double : fits binary64 s.quality.largest_cosine ≡ true = let owned = c.well_formed.1.1.1.1.1.1.1.1.1.1.0.1.1 in let quality = owned.1.1.1.1.1.1.1.0.1.1 in quality.1.0.1 in
    let d = c.run-ran.new in
    let exit = lent_of d.points a.triangles.now a.joints.now d.quads d.triangles_out d.components d.work d.float_work d.trace in
    let to = subst (λ (most : ℕ). RanTo most s l c.run-ran.result exit) c.limit_of-most.ensures c.run-ran.ensures in
    (ran_kept (job_limit (job_of a.state) s) s l double passes c.run-ran.result exit to).2
