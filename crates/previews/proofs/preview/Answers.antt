-- Refused before the attempt, or shown; both work slices are cleared then.
use Rattle.std.specs.Prelude.{◌≡◌, [], Err}
use Rattle.std.proofs.lemmas.Result.{err_from_is_err_and}
use Rattle.std.proofs.Common.{refl, sym, ◌∙◌, ap}
use Rattle.definition.specs.Floats.{0·0, f64}
use Rattle.refusals.specs.Numbers.{number_or_0}
use Rattle.refusals.specs.Stated.{asked}
use Rattle.mesher.specs.Promise.{lent_of}
use Rattle.mesher.proofs.Showing.{refused_previews, shown_previews}
use Rattle.previews.proofs.preview.Goals as goal

pub returns-in_err-refusal : goal.returns-in_err-refusal
returns-in_err-refusal c =
    let a = c.args in
    let s = asked a.stated in
    let l = lent_of a.points.now a.triangles.now a.joints.now a.quads.now a.triangles_out.now a.components.now a.work.now a.float_work.now [] in
    let first = c.refusal.ensures l (record { points = refl; triangles = refl; joints = refl; quads = refl; triangles_out = refl; components = refl; work = refl; float_work = refl }) in
    let k = c.in_err-refusal.field-0.0 in
    let up = err_from_is_err_and c.from_residual.result c.from_residual.ensures.1 in
    let same : c.from_residual.result ≡ Err k = up.1 ∙ ap Err up.2 in
    rw same (refused_previews s l a.u a.v k (sym (ap number_or_0 c.in_err-refusal.was) ∙ first))

pub show_edge-r-requires : goal.show_edge-r-requires
show_edge-r-requires c =
    let a = c.args in
    let l = lent_of a.points.now a.triangles.now a.joints.now a.quads.now a.triangles_out.now a.components.now a.work.now a.float_work.now [] in
    let first = c.refusal.ensures l (record { points = refl; triangles = refl; joints = refl; quads = refl; triangles_out = refl; components = refl; work = refl; float_work = refl }) in
    (l, record { passed = sym first ∙ ap number_or_0 c.in_ok-refusal.was; points = refl; triangles = refl; joints = refl; work = refl })

pub returns : goal.returns
unfolding 0·0 f64
returns c =
    let a = c.args in
    let s = asked a.stated in
    let l = lent_of a.points.now a.triangles.now a.joints.now a.quads.now a.triangles_out.now a.components.now a.work.now a.float_work.now [] in
    let first = c.refusal.ensures l (record { points = refl; triangles = refl; joints = refl; quads = refl; triangles_out = refl; components = refl; work = refl; float_work = refl }) in
    let passes = sym first ∙ ap number_or_0 c.in_ok-refusal.was in
    let x = c.show_edge-r in
    shown_previews a.points.now a.triangles.now a.joints.now a.quads.now a.triangles_out.now a.components.now a.work.now a.float_work.now
    s a.u a.v passes x.result x.new.points x.new.work c.clear.new.w c.clear-2.new.w
    (x.ensures l (record { passed = passes; points = refl; triangles = refl; joints = refl; work = refl })) x.auto.work c.clear.ensures c.clear-2.ensures
