-- The number of the first refusal, where it comes before 4.
use mathlib.Core.Path.{ap, sym, ◌∙◌}
use borrow.Author.Rules.{rules}
use Rattle.answer_numbers.specs.Runs.{up_to_4}
use Rattle.answer_numbers.proofs.Numbers.{is_4}
use Rattle.answer_numbers.proofs.short_answer.Goals as goal

pub returns-then-k-eq1 : goal.returns-then-k-eq1
returns-then-k-eq1 c = λ l h. sym (ap up_to_4 (sym (c.number_or_0-k.ensures ∙ c.refusal.ensures l h) ∙ c.if-k-eq1.true))

pub returns-then-k-eq2 : goal.returns-then-k-eq2
returns-then-k-eq2 c = λ l h. sym (ap up_to_4 (sym (c.number_or_0-k.ensures ∙ c.refusal.ensures l h) ∙ c.if-k-eq2.true))

pub returns-then-k-eq3 : goal.returns-then-k-eq3
returns-then-k-eq3 c = λ l h. sym (ap up_to_4 (sym (c.number_or_0-k.ensures ∙ c.refusal.ensures l h) ∙ c.if-k-eq3.true))

pub returns-then-k-eq14 : goal.returns-then-k-eq14
returns-then-k-eq14 c = λ l h. sym (ap up_to_4 (sym (c.number_or_0-k.ensures ∙ c.refusal.ensures l h) ∙ c.if-k-eq14.true))

pub returns : goal.returns
returns c = λ l h.
    sym (ap up_to_4 (sym (c.number_or_0-k.ensures ∙ c.refusal.ensures l h)) ∙ is_4 c.number_or_0-k.result c.if-k-eq1.false c.if-k-eq2.false c.if-k-eq3.false c.if-k-eq14.false)
