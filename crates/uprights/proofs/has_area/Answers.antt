-- As it is, or turned over.
use mathlib.Core.Path.{sym, ◌∙◌}
use Rattle.uprights.proofs.Turns.{up_kept, up_over}
use Rattle.uprights.proofs.has_area.Goals as goal

pub returns-then-runs_left : goal.returns-then-runs_left
returns-then-runs_left c = c.if-runs_left.true ∙ up_kept _ _ _ _ (sym c.runs_left.ensures ∙ c.if-runs_left.true)

pub returns-else-runs_left : goal.returns-else-runs_left
returns-else-runs_left c = up_over _ _ _ _ _ (sym c.runs_left.ensures ∙ c.if-runs_left.false) c.runs_left-else-runs_left.ensures
