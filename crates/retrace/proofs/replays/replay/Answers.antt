-- The opening tests, the mesh built, its entries; then the lists or the refusal, and both work slices cleared.
use Rattle.std.specs.Prelude.{◌≡◌, Ok, Err}
use Rattle.std.proofs.lemmas.Result.{err_from_is_err_and}
use Rattle.laws.specs.Kit.{refl, sym, ◌∙◌, ap, arith}
use lib.Ieee.{of_bits}
use lib.ListN.{length-take}
use Rattle.definition.specs.Floats.{0·0, f64}
use Rattle.definition.specs.Call.{settings}
use Rattle.definition.specs.Replay.{as_asked}
use Rattle.refusals.specs.Numbers.{number, number_or_0, not_0}
use Rattle.retrace.specs.Plays.{state, played}
use Rattle.retrace.specs.Opening.{first_mesh}
use Rattle.retrace.specs.Replaying.{told_of, lent_of, answered}
use Rattle.retrace.proofs.Openings.{opened}
use Rattle.retrace.proofs.Beginning.{sized, small, roomy, nothing_locked}
use Rattle.retrace.proofs.Returns.{refused_returns}
use Rattle.retrace.proofs.Ends.{suits_told, at_end, done_returns, cut_returns}
use Rattle.retrace.proofs.replays.replay.Goals as goal

pub returns-in_err-opening : goal.returns-in_err-opening
returns-in_err-opening c =
    let a = c.args in
    let t = told_of a.told in
    let l = lent_of a.points.now a.triangles.now a.trace.now a.quads.now a.triangles_out.now a.components.now a.work.now a.float_work.now in
    let o = c.opening.ensures l (record { points = refl; triangles = refl; joints = refl; quads = refl; triangles_out = refl; components = refl; work = refl; float_work = refl }) refl in
    let k = c.in_err-opening.field-0.0 in
    let up = err_from_is_err_and c.from_residual.result c.from_residual.ensures.1 in
    let same : c.from_residual.result ≡ Err k = up.1 ∙ ap Err up.2 in
    rw same (refused_returns t l (number k) (answered (Err k)) (sym (ap number_or_0 c.in_err-opening.was) ∙ o) (not_0 k) refl)

pub begin-first-requires : goal.begin-first-requires
begin-first-requires c =
    let a = c.args in
    let t = told_of a.told in
    let l = lent_of a.points.now a.triangles.now a.trace.now a.quads.now a.triangles_out.now a.components.now a.work.now a.float_work.now in
    let o = c.opening.ensures l (record { points = refl; triangles = refl; joints = refl; quads = refl; triangles_out = refl; components = refl; work = refl; float_work = refl }) refl in
    let passes = sym o ∙ ap number_or_0 c.in_ok-opening.was in
    (l, record { opened = passes; triangles = refl; work = refl })

pub invariant_of-lay : goal.invariant_of-lay
invariant_of-lay c =
    let a = c.args in
    let t = told_of a.told in
    let l = lent_of a.points.now a.triangles.now a.trace.now a.quads.now a.triangles_out.now a.components.now a.work.now a.float_work.now in
    let o = c.opening.ensures l (record { points = refl; triangles = refl; joints = refl; quads = refl; triangles_out = refl; components = refl; work = refl; float_work = refl }) refl in
    record { sizes = sized t l (sym o ∙ ap number_or_0 c.in_ok-opening.was) }

pub slice_bounds-play-end : goal.slice_bounds-play-end
slice_bounds-play-end c =
    let a = c.args in
    let t = told_of a.told in
    let l = lent_of a.points.now a.triangles.now a.trace.now a.quads.now a.triangles_out.now a.components.now a.work.now a.float_work.now in
    let o = c.opening.ensures l (record { points = refl; triangles = refl; joints = refl; quads = refl; triangles_out = refl; components = refl; work = refl; float_work = refl }) refl in
    let passes = sym o ∙ ap number_or_0 c.in_ok-opening.was in
    let fits = (opened t l passes).words in
    simp length-take (omega (arith, fits))

pub play-done-requires-clause-by_index : goal.play-done-requires-clause-by_index
play-done-requires-clause-by_index c =
    let a = c.args in
    let t = told_of a.told in
    let l = lent_of a.points.now a.triangles.now a.trace.now a.quads.now a.triangles_out.now a.components.now a.work.now a.float_work.now in
    let o = c.opening.ensures l (record { points = refl; triangles = refl; joints = refl; quads = refl; triangles_out = refl; components = refl; work = refl; float_work = refl }) refl in
    let passes = sym o ∙ ap number_or_0 c.in_ok-opening.was in
    let b = c.begin-first.ensures l (record { opened = passes; triangles = refl; work = refl }) in
    (l.points, l.quads, first_mesh t l, settings (as_asked t), suits_told t, b.plays, small t l passes)

pub play-done-requires-clause-at_value : goal.play-done-requires-clause-at_value
play-done-requires-clause-at_value c =
    let a = c.args in
    let t = told_of a.told in
    let l = lent_of a.points.now a.triangles.now a.trace.now a.quads.now a.triangles_out.now a.components.now a.work.now a.float_work.now in
    let o = c.opening.ensures l (record { points = refl; triangles = refl; joints = refl; quads = refl; triangles_out = refl; components = refl; work = refl; float_work = refl }) refl in
    let passes = sym o ∙ ap number_or_0 c.in_ok-opening.was in
    let b = c.begin-first.ensures l (record { opened = passes; triangles = refl; work = refl }) in
    (b.at, nothing_locked)

pub finish-answer-requires-clause-by_index : goal.finish-answer-requires-clause-by_index
finish-answer-requires-clause-by_index c =
    let a = c.args in
    let t = told_of a.told in
    let l = lent_of a.points.now a.triangles.now a.trace.now a.quads.now a.triangles_out.now a.components.now a.work.now a.float_work.now in
    let o = c.opening.ensures l (record { points = refl; triangles = refl; joints = refl; quads = refl; triangles_out = refl; components = refl; work = refl; float_work = refl }) refl in
    let passes = sym o ∙ ap number_or_0 c.in_ok-opening.was in
    let b = c.begin-first.ensures l (record { opened = passes; triangles = refl; work = refl }) in
    let to = c.in-Ok.ensures l.points l.quads (first_mesh t l) (settings (as_asked t)) (suits_told t) b.plays in
    let d = at_end t l passes c.begin-first.new.work c.play-done.new.work c.play-done.new.points c.play-done.new.quads (state c.in-Ok.end) to refl in
    (c.play-done.new.points, c.play-done.new.quads, l.points, l.quads, d.mesh, d.ends.plays)

pub finish-answer-requires-clause-slots_in_bounds : goal.finish-answer-requires-clause-slots_in_bounds
finish-answer-requires-clause-slots_in_bounds c =
    let a = c.args in
    let t = told_of a.told in
    let l = lent_of a.points.now a.triangles.now a.trace.now a.quads.now a.triangles_out.now a.components.now a.work.now a.float_work.now in
    let o = c.opening.ensures l (record { points = refl; triangles = refl; joints = refl; quads = refl; triangles_out = refl; components = refl; work = refl; float_work = refl }) refl in
    let passes = sym o ∙ ap number_or_0 c.in_ok-opening.was in
    roomy t l passes

-- one was refused
pub returns-in-Err : goal.returns-in-Err
unfolding 0·0 of_bits f64
returns-in-Err c =
    let a = c.args in
    let t = told_of a.told in
    let l = lent_of a.points.now a.triangles.now a.trace.now a.quads.now a.triangles_out.now a.components.now a.work.now a.float_work.now in
    let o = c.opening.ensures l (record { points = refl; triangles = refl; joints = refl; quads = refl; triangles_out = refl; components = refl; work = refl; float_work = refl }) refl in
    let passes = sym o ∙ ap number_or_0 c.in_ok-opening.was in
    let b = c.begin-first.ensures l (record { opened = passes; triangles = refl; work = refl }) in
    let to = c.in-Err.ensures l.points l.quads (first_mesh t l) (settings (as_asked t)) (suits_told t) b.plays in
    let k = c.in-Err.k in
    cut_returns t l passes c.begin-first.new.work c.play-done.new.work c.play-done.new.points c.play-done.new.quads (played (Err k)) to
    c.play-done.new.work c.clear.new.w c.clear-in-Err.new.w (c.play-done.auto.work ∙ c.begin-first.auto.work) c.clear.ensures c.clear-in-Err.ensures (not_0 k) (answered (Err k)) refl

-- all were done
pub returns-in-Ok : goal.returns-in-Ok
unfolding 0·0 of_bits f64
returns-in-Ok c =
    let a = c.args in
    let t = told_of a.told in
    let l = lent_of a.points.now a.triangles.now a.trace.now a.quads.now a.triangles_out.now a.components.now a.work.now a.float_work.now in
    let o = c.opening.ensures l (record { points = refl; triangles = refl; joints = refl; quads = refl; triangles_out = refl; components = refl; work = refl; float_work = refl }) refl in
    let passes = sym o ∙ ap number_or_0 c.in_ok-opening.was in
    let b = c.begin-first.ensures l (record { opened = passes; triangles = refl; work = refl }) in
    let to = c.in-Ok.ensures l.points l.quads (first_mesh t l) (settings (as_asked t)) (suits_told t) b.plays in
    done_returns t l passes c.begin-first.new.work c.play-done.new.work c.play-done.new.points c.play-done.new.quads (state c.in-Ok.end) to
    c.finish-answer.new.work c.clear-in-Ok.new.w c.clear-in-Ok-2.new.w (c.finish-answer.auto.work ∙ c.play-done.auto.work ∙ c.begin-first.auto.work) c.clear-in-Ok.ensures c.clear-in-Ok-2.ensures
    refl c.finish-answer.result c.finish-answer.new.triangles_out c.finish-answer.new.components c.finish-answer.ensures
