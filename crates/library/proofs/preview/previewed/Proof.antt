-- With room for the numbers the preview; without it the refusal that comes first, or 4.
use mathlib.Core.Path.{refl}
use mathlib.Core.List.{[]}
use borrow.Author.Rules.{rules}
use Rattle.definition.specs.Call.{Asked, Lent}
use Rattle.refusals.specs.Stated.{asked}
use Rattle.mesher.specs.Promise.{lent_of}
use Rattle.library.proofs.Showing.{with_room, without_room}
use Rattle.library.proofs.preview.previewed.Statement.{statement}
use Rattle.library.proofs.preview.previewed.Tie as tie

-- what the call states, and what its slices hold
abbrev stated : tie.Start → Asked
stated t = asked t.args.stated

abbrev held : tie.Start → Lent
held t =
    lent_of t.args.points.now t.args.triangles.now t.args.joints.now t.args.quads.now t.args.triangles_out.now t.args.components.now t.args.work.now
    t.args.float_work.now []

abbrev start : tie.After-preview-shown → tie.Start
start x = x.before.before.before.before.before.before.before.before.before.before.before.before.before.before

-- what they hold after the preview
abbrev left : tie.After-preview-shown → Lent
left x =
    let d = x.preview-shown.new in
    let a = (start x).args in
    lent_of d.points a.triangles.now a.joints.now a.quads.now a.triangles_out.now a.components.now d.work d.float_work []

returns : tie.Need-returns-then-answer-lt-NUMBERS
returns c =
    let t = c in
    without_room (stated t.before.before.before.before.before.before.before.before.before.before.before) (held t.before.before.before.before.before.before.before.before.before.before.before) t.args.u t.args.v t.args.answer.now c.short_answer.result c.if-answer-lt-NUMBERS.true
    (c.short_answer.ensures (held t.before.before.before.before.before.before.before.before.before.before.before) (record { points = refl; triangles = refl; joints = refl; quads = refl; triangles_out = refl; components = refl; work = refl; float_work = refl }))

returns_2 : tie.Need-returns
returns_2 c =
    let x = c in
    let w = c in
    let t = start x.before.before.before.before.before.before.before.before.before.before in
    with_room (stated t) (held t) t.args.u t.args.v t.args.answer.now w.put_shown.result w.put_shown.new.answer (left x.before.before.before.before.before.before.before.before.before.before) x.preview-shown.result
    x.if-answer-lt-NUMBERS.false x.preview-shown.ensures w.put_shown.ensures.0 w.put_shown.ensures.1

pub previewed_spec : {M : Type 1} → statement M
previewed_spec =
    tie.close
    (tie.spec
    (λ c κs. search rules) (λ c. search rules) returns (λ c κs. search rules) (λ c κs. search rules) (λ c. search rules) (λ c. search rules) (λ c. search rules) (λ c. search rules) returns_2)
