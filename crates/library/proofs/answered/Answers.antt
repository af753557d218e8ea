-- With room for the numbers the call; without it the refusal that comes first, or 4.
use Rattle.std.specs.Prelude.{◌≡◌}
use mathlib.Core.Path.{refl, sym, ap, ◌∙◌}
use Rattle.definition.specs.Call.{onto}
use Rattle.refusals.specs.Numbers.{not_0}
use Rattle.refusals.specs.Stated.{asked}
use Rattle.mesher.specs.Promise.{answered, lent_of}
use Rattle.answer_numbers.specs.Runs.{numbers}
use Rattle.library.proofs.Handing.{kept, put, with_room, without_room}
use Rattle.library.proofs.answered.Goals as goal

pub returns-then-answer-lt-ANSWER : goal.returns-then-answer-lt-ANSWER
returns-then-answer-lt-ANSWER c =
    let a = c.args in
    let s = asked a.stated in
    let l = lent_of a.points.now a.triangles.now a.joints.now a.quads.now a.triangles_out.now a.components.now a.work.now a.float_work.now a.trace.now in
    without_room s l a.answer.now c.short_answer.result c.if-answer-lt-ANSWER.true
    (c.short_answer.ensures l (record { points = refl; triangles = refl; joints = refl; quads = refl; triangles_out = refl; components = refl; work = refl; float_work = refl }))

pub returns-in-Ok : goal.returns-in-Ok
returns-in-Ok c =
    let a = c.args in
    let s = asked a.stated in
    let l = lent_of a.points.now a.triangles.now a.joints.now a.quads.now a.triangles_out.now a.components.now a.work.now a.float_work.now a.trace.now in
    let d = c.run_front.new in
    let left = lent_of d.points a.triangles.now a.joints.now d.quads d.triangles_out d.components d.work d.float_work d.trace in
    let r = answered c.run_front.result in
    let e = c.run_front.ensures in
    let zero : r.refusal ≡ 0 = ap (λ x. (answered x).refusal) c.in-Ok.is in
    let new = c.write_answer.ensures ∙ ap (λ x. onto (numbers (answered x)) a.answer.now) (sym c.in-Ok.is) in
    with_room s l a.answer.now 0 c.write_answer.new.answer left r c.if-answer-lt-ANSWER.false
    (record { returns = e.returns; keeps = e.kept_account; joints = e.kept_joints; area = e.kept_area; number = sym zero; answer = put r a.answer.now _ zero new })

pub returns-in-Err : goal.returns-in-Err
returns-in-Err c =
    let a = c.args in
    let s = asked a.stated in
    let l = lent_of a.points.now a.triangles.now a.joints.now a.quads.now a.triangles_out.now a.components.now a.work.now a.float_work.now a.trace.now in
    let d = c.run_front.new in
    let left = lent_of d.points a.triangles.now a.joints.now d.quads d.triangles_out d.components d.work d.float_work d.trace in
    let r = answered c.run_front.result in
    let e = c.run_front.ensures in
    let is = ap (λ x. (answered x).refusal) c.in-Err.is in
    with_room s l a.answer.now c.into.result a.answer.now left r c.if-answer-lt-ANSWER.false
    (record { returns = e.returns; keeps = e.kept_account; joints = e.kept_joints; area = e.kept_area; number = c.into.ensures ∙ sym is; answer = kept r a.answer.now (λ z. not_0 c.in-Err.k (sym is ∙ z)) })
