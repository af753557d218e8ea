-- With room for the numbers the verdict; without it the refusal that comes first, or 4.
use borrow.Author.Rules.{rules}
use Rattle.accept.specs.Call.{Handed}
use Rattle.accept_refusals.specs.Stated.{handed}
use Rattle.library.proofs.Judging.{with_room, without_room}
use Rattle.library.proofs.verdict.judged.Statement.{statement}
use Rattle.library.proofs.verdict.judged.Tie as tie

-- what is handed in
abbrev hand : tie.Start → Handed
hand t =
    let a = t.args in
    handed a.given_points.now a.triangles.now a.points.now a.quads.now a.left.now a.joints.now a.components.now a.work.now a.parents.now a.a

returns : tie.Need-returns-then-answer-lt-VERDICT
returns c =
    let t = c in
    without_room (hand t.before.before.before.before.before.before.before.before.before.before.before.before) t.args.answer.now c.short_verdict.result c.if-answer-lt-VERDICT.true c.short_verdict.ensures

returns_2 : tie.Need-returns
returns_2 c =
    let w = c in
    let x = w in
    let e = x in
    let t = e in
    let a = t.args in
    let d = x.accept-found.new in
    with_room a.given_points.now a.triangles.now a.points.now a.quads.now a.left.now a.joints.now a.components.now a.work.now a.parents.now a.a
    a.answer.now w.put_verdict.result w.put_verdict.new.answer d.components d.work d.parents x.accept-found.result e.if-answer-lt-VERDICT.false x.accept-found.ensures w.put_verdict.ensures

pub judged_spec : {M : Type 1} → statement M
judged_spec =
    tie.close
    (tie.spec
    (λ c κs. search rules) (λ c. search rules) (λ c. search rules) (λ c. search rules) returns (λ c κs. search rules) (λ c κs. search rules) (λ c. search rules) (λ c. search rules) (λ c. search rules) (λ c. search rules) returns_2)
