-- `told`: a refusal's number, or the counts and lists.
use Rattle.std.specs.Prelude.{◌≡◌}
use borrow.Author.Rules.{rules}
use mathlib.Core.Path.{refl, sym, ap, subst, ◌∙◌}
use native.Mathlib.Omega.{arith}
use Rattle.definition.specs.Lists.{rows}
use Rattle.definition.specs.Text.{show_refusal}
use Rattle.writing.specs.Answer.{lengths_of, Answered}
use Rattle.refusals.specs.Numbers.{number_positive}
use Rattle.mesher.specs.Promise.{answered}
use Rattle.replies.specs.Tells.{Countable, Writable, Left}
use Rattle.replies.proofs.Shown.{refused_shown, finished_shown}
use Rattle.replies.proofs.told.Goals as goal

pub returns-in-Err : goal.returns-in-Err
returns-in-Err c = λ x h.
    let a = c.args in
    let is : (answered a.a).refusal ≡ c.into.result = ap (λ r. (answered r).refusal) c.in-Err.is ∙ sym c.into.ensures in
    subst (λ t. Answered a.out.now c.refusal.new.out t c.refusal.result)
    (ap show_refusal (sym is) ∙ refused_shown (rows 3 a.given a.bits.now) h (omega (arith, is, c.into.ensures, number_positive c.in-Err.k))) c.refusal.ensures

pub counts_of-c-requires : goal.counts_of-c-requires
counts_of-c-requires c = subst (λ r. Countable (answered r)) c.in-Ok.is c.requires.0.counts

pub answer-requires : goal.answer-requires
answer-requires c =
    let w = subst (λ r. Writable (answered r) c.args.given) c.in-Ok.is c.requires.0 in
    let l = c.requires.1 in
    let first = w.given_first refl in (
      record { quads = w.quads; triangles = w.triangles; points = w.points; components = w.components },
      record {
        given_few = omega (arith, first);
        given_held = omega (arith, l.bits_long);
        points_held = omega (arith, w.points, l.points_long);
        quads_held = omega (arith, w.quads, l.quads_long);
        triangles_held = omega (arith, w.triangles, l.triangles_long);
        components_held = omega (arith, w.components, l.components_long);
      },
      l.out_long,
    )

pub returns : goal.returns
unfolding lengths_of
returns c = λ x h.
    let a = c.args in
    let w = c.answer in
    let left = subst (λ r. Left x (answered r) a.points.now a.quads.now a.triangles.now a.components.now) c.in-Ok.is h in
    subst (λ t. Answered a.out.now w.new.out t w.result)
    (finished_shown (rows 3 a.given a.bits.now) left _ _ (omega arith) refl refl) (w.ensures _ c.counts_of-c.ensures)
