-- Want of lent memory refuses, and otherwise the run finishes; either way both work slices are cleared then.
use Rattle.std.specs.Prelude.{Ok, Err}
use Rattle.laws.specs.Kit.{refl, sym, ◌∙◌, ap}
use Rattle.definition.specs.Floats.{0·0, f64}
use Rattle.refusals.specs.Numbers.{number_or_0, not_0}
use Rattle.refusals.specs.Stated.{asked}
use Rattle.mesher.specs.Promise.{answered, lent_of}
use Rattle.mesher.specs.Parts.{sized, CanMesh, refused}
use Rattle.mesher.proofs.Ends.{can_finish, wanting_charged, wanting_returns, done_limit, done_charged, done_returns}
use Rattle.mesher.proofs.run.run.Goals as goal

pub returns-in-Err : goal.returns-in-Err
unfolding 0·0 f64
returns-in-Err c =
    let a = c.args in
    let s = asked a.stated in
    let l = lent_of a.points.now a.triangles.now a.joints.now a.quads.now a.triangles_out.now a.components.now a.work.now a.float_work.now a.trace.now in
    let can : CanMesh a.points.now a.triangles.now a.joints.now a.quads.now a.work.now a.float_work.now a.trace.now a.attempts s l =
    record { passed = c.requires.trace_value; usual = c.requires.attempts_bound; points = refl; triangles = refl; joints = refl; quads = refl; work = refl; floats = refl; trace = refl } in
    let m = c.mesh-end in
    let e = sym (ap number_or_0 c.in-Err.is) ∙ c.ended.ensures in
    record {
      returns =
          wanting_returns a.attempts s l c.requires.trace_value m.result m.new.work m.new.points m.new.float_work m.new.quads m.new.trace (m.ensures l can) _ e
          (answered (Err c.in-Err.k)) m.new.work c.clear.new.w c.clear-in-Err.new.w refl
          c.clear.ensures c.clear-in-Err.ensures (not_0 c.in-Err.k) (refused c.in-Err.k);
      charged = wanting_charged a.attempts s l c.requires.trace_value m.result m.new.work m.new.points m.new.float_work m.new.quads m.new.trace (m.ensures l can) _ e (not_0 c.in-Err.k);
    }

pub invariant_of-lay : goal.invariant_of-lay
invariant_of-lay c = record { sizes = sized _ _ c.requires.trace_value }

pub finish-answer-requires : goal.finish-answer-requires
finish-answer-requires c =
    let a = c.args in
    let s = asked a.stated in
    let l = lent_of a.points.now a.triangles.now a.joints.now a.quads.now a.triangles_out.now a.components.now a.work.now a.float_work.now a.trace.now in
    let can : CanMesh a.points.now a.triangles.now a.joints.now a.quads.now a.work.now a.float_work.now a.trace.now a.attempts s l =
    record { passed = c.requires.trace_value; usual = c.requires.attempts_bound; points = refl; triangles = refl; joints = refl; quads = refl; work = refl; floats = refl; trace = refl } in
    let m = c.mesh-end in
    can_finish a.attempts s l c.requires.trace_value m.result m.new.work m.new.points m.new.float_work m.new.quads m.new.trace (m.ensures l can) 0 (sym (ap number_or_0 c.in_default.is) ∙ c.ended.ensures) refl

pub attempts_made-charged-requires : goal.attempts_made-charged-requires
attempts_made-charged-requires c =
    let a = c.args in
    let s = asked a.stated in
    let l = lent_of a.points.now a.triangles.now a.joints.now a.quads.now a.triangles_out.now a.components.now a.work.now a.float_work.now a.trace.now in
    let can : CanMesh a.points.now a.triangles.now a.joints.now a.quads.now a.work.now a.float_work.now a.trace.now a.attempts s l =
    record { passed = c.requires.trace_value; usual = c.requires.attempts_bound; points = refl; triangles = refl; joints = refl; quads = refl; work = refl; floats = refl; trace = refl } in
    let m = c.mesh-end in
    let e = sym (ap number_or_0 c.in_default.is) ∙ c.ended.ensures in
    let left = can_finish a.attempts s l c.requires.trace_value m.result m.new.work m.new.points m.new.float_work m.new.quads m.new.trace (m.ensures l can) 0 e refl in
    done_limit a.attempts s l c.requires.trace_value m.result m.new.work m.new.points m.new.float_work m.new.quads m.new.trace (m.ensures l can) 0 e refl
    (answered (Ok c.finish-answer.result)) (c.finish-answer.ensures left.0 left.1).counts

pub returns : goal.returns
unfolding 0·0 f64
returns c =
    let a = c.args in
    let s = asked a.stated in
    let l = lent_of a.points.now a.triangles.now a.joints.now a.quads.now a.triangles_out.now a.components.now a.work.now a.float_work.now a.trace.now in
    let can : CanMesh a.points.now a.triangles.now a.joints.now a.quads.now a.work.now a.float_work.now a.trace.now a.attempts s l =
    record { passed = c.requires.trace_value; usual = c.requires.attempts_bound; points = refl; triangles = refl; joints = refl; quads = refl; work = refl; floats = refl; trace = refl } in
    let m = c.mesh-end in
    let d = c.finish-answer in
    let e = sym (ap number_or_0 c.in_default.is) ∙ c.ended.ensures in
    let left = can_finish a.attempts s l c.requires.trace_value m.result m.new.work m.new.points m.new.float_work m.new.quads m.new.trace (m.ensures l can) 0 e refl in
    record {
      returns =
          done_returns a.attempts s l c.requires.trace_value m.result m.new.work m.new.points m.new.float_work m.new.quads m.new.trace (m.ensures l can) 0 e
          (answered (Ok d.result)) d.new.work c.clear-2.new.w c.clear-3.new.w d.auto.work
          c.clear-2.ensures c.clear-3.ensures d.new.triangles_out d.new.components refl d.ensures;
      charged = c.attempts_made-charged.ensures ∙ done_charged a.attempts s l c.requires.trace_value m.result m.new.work m.new.points m.new.float_work m.new.quads m.new.trace (m.ensures l can) 0 e refl
          (answered (Ok d.result)) (d.ensures left.0 left.1).counts;
    }
