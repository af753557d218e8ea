-- The first refusal of the call with these numbers is 1 where they are over a limit.
use Rattle.std.specs.Prelude.{◌≡◌, []}
use mathlib.Core.Path.{sym, ap, ◌∙◌}
use Rattle.definition.specs.Floats.{f64, 0·0}
use Rattle.definition.specs.Call.{Asked, Lent}
use Rattle.definition.specs.Replay.{as_asked}
use Rattle.refusals.specs.Refusals.{first_refusal}
use Rattle.refusals.specs.Stated.{blank, blank_lends}
use Rattle.answer_numbers.specs.Replays.{told_for}
use Rattle.answer_numbers.proofs.Lengths.{one, four}
use Rattle.answer_numbers.proofs.replays.short_replay.Goals as goal

pub returns-then-k-eq1 : goal.returns-then-k-eq1
unfolding as_asked 0·0 f64
returns-then-k-eq1 c =
    let a = c.args in
    let told = told_for a.told.given a.told.capacity a.told.count a.told.slots a.told.words in
    let memory = blank a.points.now a.triangles.now [] a.n in
    let is = c.number_or_0-k.ensures ∙ c.refusal.ensures memory (blank_lends a.points.now a.triangles.now [] a.n) ∙ ap (λ (z : Asked). first_refusal z memory) c.standard-stated.ensures in
    one (as_asked told) memory (sym is ∙ c.if-k-eq1.true)

pub returns : goal.returns
unfolding as_asked 0·0 f64
returns c =
    let a = c.args in
    let told = told_for a.told.given a.told.capacity a.told.count a.told.slots a.told.words in
    let memory = blank a.points.now a.triangles.now [] a.n in
    let is = c.number_or_0-k.ensures ∙ c.refusal.ensures memory (blank_lends a.points.now a.triangles.now [] a.n) ∙ ap (λ (z : Asked). first_refusal z memory) c.standard-stated.ensures in
    four (as_asked told) memory (λ e. c.if-k-eq1.false (is ∙ e))
