-- The number of the call, with the trace's words between 4 and 5.
use Rattle.std.specs.Prelude.{◌≡◌}
use Rattle.laws.specs.Kit.{sym, ◌∙◌, ap, arith}
use Rattle.definition.specs.Floats.{0·0, f64}
use Rattle.definition.specs.Call.{Asked}
use Rattle.definition.specs.Replay.{as_asked}
use Rattle.refusals.specs.Refusals.{first_refusal}
use Rattle.retrace.specs.Replaying.{told_of}
use Rattle.retrace.proofs.Openings.{opens_one, opens_short, opens_same}
use Rattle.retrace.proofs.opening.opening.Goals as goal

pub returns-then-k-eq1 : goal.returns-then-k-eq1
unfolding as_asked 0·0 f64
returns-then-k-eq1 c = λ l h e.
    let is = c.refusal-found.ensures l h ∙ ap (λ (a : Asked). first_refusal a l) c.standard-stated.ensures in
    let one = sym c.number_or_0-k.ensures ∙ c.if-k-eq1.true in
    one ∙ opens_one (told_of c.args.told) l (sym is ∙ one)

pub returns-then-lent-told : goal.returns-then-lent-told
unfolding as_asked 0·0 f64
returns-then-lent-told c = λ l h e.
    let is = c.number_or_0-k.ensures ∙ c.refusal-found.ensures l h ∙ ap (λ (a : Asked). first_refusal a l) c.standard-stated.ensures in
    opens_short (told_of c.args.told) l (λ z. c.if-k-eq1.false (is ∙ z)) (omega (arith, e, c.if-lent-told.true))

pub returns : goal.returns
unfolding as_asked 0·0 f64
returns c = λ l h e.
    let is = c.refusal-found.ensures l h ∙ ap (λ (a : Asked). first_refusal a l) c.standard-stated.ensures in
    is ∙ opens_same (told_of c.args.told) l (omega (arith, e, c.if-lent-told.false))
