-- The test decides between the worst so far and the new value.
use Rattle.laws.specs.Kit.{sym, ◌∙◌}
use Rattle.definition.specs.Sheet.{worse}
use Rattle.sheet_steps.specs.Values.{worst_in}
use Rattle.sheet_steps.proofs.values.worse.Goals as goal

pub returns-then-than : goal.returns-then-than
unfolding worst_in worse
returns-then-than g c = λ r h. rw (c.in-Some.is, sym (h _ _ _ c.than.ensures) ∙ c.if-than.true)

pub returns-else-than : goal.returns-else-than
unfolding worst_in worse
returns-else-than g c = λ r h. rw (c.in-Some.is, sym (h _ _ _ c.than.ensures) ∙ c.if-than.false)

pub returns-in-None : goal.returns-in-None
unfolding worst_in worse
returns-in-None g c = λ r h. rw c.in-None.is
