-- Refused before the run, or the run with its usual limit; the account, the joints and the area follow from what came back.
use Rattle.std.specs.Prelude.{◌≡◌, true, Err}
use Rattle.std.specs.Float.{binary64}
use Rattle.std.specs.Float.Ieee.{fits}
use Rattle.std.proofs.lemmas.Result.{err_from_is_err_and}
use Rattle.laws.specs.Kit.{refl, sym, ◌∙◌, ap, subst, arith}
use Rattle.definition.specs.Numbers.{max_attempts}
use Rattle.definition.specs.Call.{Returned, call}
use Rattle.refusals.specs.Numbers.{number, number_or_0, not_0}
use Rattle.refusals.specs.Refusals.{first_refusal, passed}
use Rattle.refusals.specs.Stated.{asked}
use Rattle.mesher.specs.Promise.{answered, lent_of, Returns}
use Rattle.mesher.specs.Parts.{refused}
use Rattle.mesher.proofs.Ends.{call_is, refused_returns}
use Rattle.mesher.proofs.Accounts.{all_kept}
use Rattle.mesher.proofs.run_front.Goals as goal

pub returns-in_err-refusal-clause-returns : goal.returns-in_err-refusal-clause-returns
unfolding call
returns-in_err-refusal-clause-returns c =
    let a = c.args in
    let s = asked a.stated in
    let l = lent_of a.points.now a.triangles.now a.joints.now a.quads.now a.triangles_out.now a.components.now a.work.now a.float_work.now a.trace.now in
    let first = c.refusal.ensures l (record { points = refl; triangles = refl; joints = refl; quads = refl; triangles_out = refl; components = refl; work = refl; float_work = refl }) in
    let k = c.in_err-refusal.field-0.0 in
    let up = err_from_is_err_and c.from_residual.result c.from_residual.ensures.1 in
    let same : c.from_residual.result ≡ Err k = up.1 ∙ ap Err up.2 in
    let by : number k ≡ first_refusal s l = sym (ap number_or_0 c.in_err-refusal.was) ∙ first in
    rw same (refused_returns (max_attempts a.stated.count) s l (number k) (answered (Err k)) by (not_0 k) (refused k))

pub overflow_mul-usual : goal.overflow_mul-usual
overflow_mul-usual c =
    let a = c.args in
    let s = asked a.stated in
    let l = lent_of a.points.now a.triangles.now a.joints.now a.quads.now a.triangles_out.now a.components.now a.work.now a.float_work.now a.trace.now in
    let first = c.refusal.ensures l (record { points = refl; triangles = refl; joints = refl; quads = refl; triangles_out = refl; components = refl; work = refl; float_work = refl }) in
    let passes : first_refusal s l ≡ 0 = sym first ∙ ap number_or_0 c.in_ok-refusal.was in
    omega (arith, (passed s l passes).limited.count)

pub overflow_add-usual : goal.overflow_add-usual
overflow_add-usual c =
    let a = c.args in
    let s = asked a.stated in
    let l = lent_of a.points.now a.triangles.now a.joints.now a.quads.now a.triangles_out.now a.components.now a.work.now a.float_work.now a.trace.now in
    let first = c.refusal.ensures l (record { points = refl; triangles = refl; joints = refl; quads = refl; triangles_out = refl; components = refl; work = refl; float_work = refl }) in
    let passes : first_refusal s l ≡ 0 = sym first ∙ ap number_or_0 c.in_ok-refusal.was in
    omega (arith, (passed s l passes).limited.count)

pub run-requires-clause-attempts_bound : goal.run-requires-clause-attempts_bound
unfolding max_attempts
run-requires-clause-attempts_bound c = omega arith

pub returns-clause-returns : goal.returns-clause-returns
unfolding call max_attempts
returns-clause-returns c =
    let a = c.args in
    let s = asked a.stated in
    let l = lent_of a.points.now a.triangles.now a.joints.now a.quads.now a.triangles_out.now a.components.now a.work.now a.float_work.now a.trace.now in
    let first = c.refusal.ensures l (record { points = refl; triangles = refl; joints = refl; quads = refl; triangles_out = refl; components = refl; work = refl; float_work = refl }) in
    let passes : first_refusal s l ≡ 0 = sym first ∙ ap number_or_0 c.in_ok-refusal.was in
    let d = c.run.new in
    let exit = lent_of d.points a.triangles.now a.joints.now d.quads d.triangles_out d.components d.work d.float_work d.trace in
    let most = max_attempts a.stated.count in
    subst (λ (v : Returned). Returns v (answered c.run.result.answer) exit) (sym (call_is most s l passes)) c.run.ensures.returns

pub returns-clause-kept_account : goal.returns-clause-kept_account
unfolding max_attempts
returns-clause-kept_account c =
    let a = c.args in
    let s = asked a.stated in
    let l = lent_of a.points.now a.triangles.now a.joints.now a.quads.now a.triangles_out.now a.components.now a.work.now a.float_work.now a.trace.now in
    let first = c.refusal.ensures l (record { points = refl; triangles = refl; joints = refl; quads = refl; triangles_out = refl; components = refl; work = refl; float_work = refl }) in
    let passes : first_refusal s l ≡ 0 = sym first ∙ ap number_or_0 c.in_ok-refusal.was in
    let double : fits binary64 s.quality.largest_cosine ≡ true = let owned = c.well_formed.1.1.1.1.1.1.1.1.1.0.1.1 in let quality = owned.1.1.1.1.1.1.1.0.1.1 in quality.1.0.1 in
    let d = c.run.new in
    let exit = lent_of d.points a.triangles.now a.joints.now d.quads d.triangles_out d.components d.work d.float_work d.trace in
    let most = max_attempts a.stated.count in
    (all_kept most s l double (answered c.run.result.answer) exit (subst (λ (v : Returned). Returns v (answered c.run.result.answer) exit) (sym (call_is most s l passes)) c.run.ensures.returns)).0

pub returns-clause-kept_joints : goal.returns-clause-kept_joints
unfolding max_attempts
returns-clause-kept_joints c =
    let a = c.args in
    let s = asked a.stated in
    let l = lent_of a.points.now a.triangles.now a.joints.now a.quads.now a.triangles_out.now a.components.now a.work.now a.float_work.now a.trace.now in
    let first = c.refusal.ensures l (record { points = refl; triangles = refl; joints = refl; quads = refl; triangles_out = refl; components = refl; work = refl; float_work = refl }) in
    let passes : first_refusal s l ≡ 0 = sym first ∙ ap number_or_0 c.in_ok-refusal.was in
    let double : fits binary64 s.quality.largest_cosine ≡ true = let owned = c.well_formed.1.1.1.1.1.1.1.1.1.0.1.1 in let quality = owned.1.1.1.1.1.1.1.0.1.1 in quality.1.0.1 in
    let d = c.run.new in
    let exit = lent_of d.points a.triangles.now a.joints.now d.quads d.triangles_out d.components d.work d.float_work d.trace in
    let most = max_attempts a.stated.count in
    (all_kept most s l double (answered c.run.result.answer) exit (subst (λ (v : Returned). Returns v (answered c.run.result.answer) exit) (sym (call_is most s l passes)) c.run.ensures.returns)).1

pub returns-clause-kept_area : goal.returns-clause-kept_area
unfolding max_attempts
returns-clause-kept_area c =
    let a = c.args in
    let s = asked a.stated in
    let l = lent_of a.points.now a.triangles.now a.joints.now a.quads.now a.triangles_out.now a.components.now a.work.now a.float_work.now a.trace.now in
    let first = c.refusal.ensures l (record { points = refl; triangles = refl; joints = refl; quads = refl; triangles_out = refl; components = refl; work = refl; float_work = refl }) in
    let passes : first_refusal s l ≡ 0 = sym first ∙ ap number_or_0 c.in_ok-refusal.was in
    let double : fits binary64 s.quality.largest_cosine ≡ true = let owned = c.well_formed.1.1.1.1.1.1.1.1.1.0.1.1 in let quality = owned.1.1.1.1.1.1.1.0.1.1 in quality.1.0.1 in
    let d = c.run.new in
    let exit = lent_of d.points a.triangles.now a.joints.now d.quads d.triangles_out d.components d.work d.float_work d.trace in
    let most = max_attempts a.stated.count in
    (all_kept most s l double (answered c.run.result.answer) exit (subst (λ (v : Returned). Returns v (answered c.run.result.answer) exit) (sym (call_is most s l passes)) c.run.ensures.returns)).2
