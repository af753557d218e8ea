-- With a state that is not refused and room in both slices the mesh; otherwise 4 or 16, and nothing is touched.
use Rattle.std.specs.Prelude.{◌≡◌}
use mathlib.Core.Path.{sym, ap, ◌∙◌}
use Rattle.definition.specs.Call.{onto}
use Rattle.refusals.specs.Numbers.{not_0}
use Rattle.refusals.specs.Stated.{asked}
use Rattle.mesher.specs.Promise.{answered, lent_of}
use Rattle.allowances.specs.States.{job_of}
use Rattle.answer_numbers.specs.Runs.{numbers}
use Rattle.library.proofs.Handing.{kept, put}
use Rattle.library.proofs.Meshes.{Came, without_state, refused_state, without_answer, with_both}
use Rattle.library.proofs.job.meshed.Goals as goal

pub returns-then-job-lt-JOB : goal.returns-then-job-lt-JOB
returns-then-job-lt-JOB c =
    let a = c.args in
    let s = asked a.stated in
    let l = lent_of a.points.now a.triangles.now a.joints.now a.quads.now a.triangles_out.now a.components.now a.work.now a.float_work.now a.trace.now in
    rw c.into.ensures (without_state s l a.job.now a.answer.now c.if-job-lt-JOB.true)

pub returns-then-bad_job : goal.returns-then-bad_job
returns-then-bad_job c =
    let a = c.args in
    let s = asked a.stated in
    let l = lent_of a.points.now a.triangles.now a.joints.now a.quads.now a.triangles_out.now a.components.now a.work.now a.float_work.now a.trace.now in
    rw c.into-then-bad_job.ensures (refused_state (job_of c.state_in-state.result) s l a.job.now a.answer.now c.state_in-state.ensures c.if-job-lt-JOB.false (sym c.bad_job.ensures ∙ c.if-bad_job.true))

pub returns-then-answer-lt-ANSWER : goal.returns-then-answer-lt-ANSWER
returns-then-answer-lt-ANSWER c =
    let a = c.args in
    let s = asked a.stated in
    let l = lent_of a.points.now a.triangles.now a.joints.now a.quads.now a.triangles_out.now a.components.now a.work.now a.float_work.now a.trace.now in
    let good = sym c.bad_job.ensures ∙ c.if-bad_job.false in
    rw c.into-then-answer-lt-ANSWER.ensures (without_answer (job_of c.state_in-state.result) s l a.job.now a.answer.now c.state_in-state.ensures c.if-job-lt-JOB.false good c.if-answer-lt-ANSWER.true)

pub returns-in-Ok : goal.returns-in-Ok
returns-in-Ok c =
    let a = c.args in
    let s = asked a.stated in
    let l = lent_of a.points.now a.triangles.now a.joints.now a.quads.now a.triangles_out.now a.components.now a.work.now a.float_work.now a.trace.now in
    let d = c.run_mesh-m.new in
    let left = lent_of d.points a.triangles.now a.joints.now d.quads d.triangles_out d.components d.work d.float_work d.trace in
    let m = c.run_mesh-m.result in
    let r = answered m.answer in
    let e = c.run_mesh-m.ensures in
    let came : Came (job_of c.state_in-state.result) s l m left = record { returns = e.job_returns; keeps = e.kept_account_within; joints = e.kept_joints; area = e.kept_area } in
    let good = sym c.bad_job.ensures ∙ c.if-bad_job.false in
    let zero : r.refusal ≡ 0 = ap (λ x. (answered x).refusal) c.in-Ok.is in
    let new = c.write_answer.ensures ∙ ap (λ x. onto (numbers (answered x)) a.answer.now) (sym c.in-Ok.is) in
    with_both (job_of c.state_in-state.result) s l a.job.now a.answer.now 0 c.write_job.new.job c.write_answer.new.answer left m
    c.state_in-state.ensures c.if-job-lt-JOB.false good c.if-answer-lt-ANSWER.false came (sym zero) c.write_job.ensures (put r a.answer.now _ zero new)

pub returns-in-Err : goal.returns-in-Err
returns-in-Err c =
    let a = c.args in
    let s = asked a.stated in
    let l = lent_of a.points.now a.triangles.now a.joints.now a.quads.now a.triangles_out.now a.components.now a.work.now a.float_work.now a.trace.now in
    let d = c.run_mesh-m.new in
    let left = lent_of d.points a.triangles.now a.joints.now d.quads d.triangles_out d.components d.work d.float_work d.trace in
    let m = c.run_mesh-m.result in
    let r = answered m.answer in
    let e = c.run_mesh-m.ensures in
    let came : Came (job_of c.state_in-state.result) s l m left = record { returns = e.job_returns; keeps = e.kept_account_within; joints = e.kept_joints; area = e.kept_area } in
    let good = sym c.bad_job.ensures ∙ c.if-bad_job.false in
    let is = ap (λ x. (answered x).refusal) c.in-Err.is in
    with_both (job_of c.state_in-state.result) s l a.job.now a.answer.now _ c.write_job.new.job a.answer.now left m
    c.state_in-state.ensures c.if-job-lt-JOB.false good c.if-answer-lt-ANSWER.false came (c.into-in-Err.ensures ∙ sym is) c.write_job.ensures (kept r a.answer.now (λ z. not_0 c.in-Err.k (sym is ∙ z)))
