-- `compare::agrees`: the bytes that were written are the definition's reply.
use Rattle.std.specs.Prelude.{◌≡◌, ◌≢◌}
use Rattle.std.specs.Cmp.Lexicographic.{same_text, other_text}
use Rattle.laws.specs.Kit.{sym, ◌∙◌, ℕ, List}
use Rattle.definition.specs.Text.{reply}
use Rattle.replay.specs.Agreeing.{same, same_itself, others, agrees}
use Rattle.replay.proofs.compare.agrees.Goals as goal

-- the answer was written
told_same : (text answer written : List ℕ) → written ≡ reply text → written ≡ answer → 1 ≡ agrees text answer
unfolding agrees
told_same text answer written e f = rw (sym e ∙ f, same_itself answer)

-- another text was written
told_other : (text answer written : List ℕ) → written ≡ reply text → written ≢ answer → 0 ≡ agrees text answer
unfolding agrees
told_other text answer written e k = rw (others (reply text) answer (λ g. k (e ∙ g)))

pub returns-then-eq-clause-value : goal.returns-then-eq-clause-value
returns-then-eq-clause-value c = told_same _ _ _ c.reply-n.ensures.answered.text (same_text _ _ c.if-eq.ensures)

pub returns-clause-value : goal.returns-clause-value
returns-clause-value c = told_other _ _ _ c.reply-n.ensures.answered.text (other_text _ _ c.if-eq.ensures)
