-- Only an edge that is among the given ones is looked for in the result.
use mathlib.Core.Path.{sym, ap, ◌∙◌}
use mathlib.Core.Bool.{not}
use Rattle.lost_joints.proofs.Joints.{stands_so, not_given}
use Rattle.lost_joints.proofs.stands.Goals as goal

pub returns-then-not-has_edge : goal.returns-then-not-has_edge
returns-then-not-has_edge c = ap not c.if-not-has_edge.true ∙ not_given _ _ _ _ _ (sym c.has_edge.ensures ∙ c.if-not-has_edge.true)

pub returns-else-not-has_edge : goal.returns-else-not-has_edge
returns-else-not-has_edge c = stands_so _ _ _ _ _ _ (sym c.has_edge.ensures ∙ c.if-not-has_edge.false) c.has_edge-else-not-has_edge.ensures
