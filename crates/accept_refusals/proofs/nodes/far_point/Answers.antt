-- `accept_refusals::nodes::far_point` meets its contract: one list after the other. Assumes nothing.
use mathlib.Core.Path.{sym, ◌∙◌}
use Rattle.accept_refusals.proofs.nodes.far_point.Goals as goal

pub returns-then-far_in : goal.returns-then-far_in
returns-then-far_in c = rw (sym c.far_in.ensures ∙ c.if-far_in.true)

pub returns : goal.returns
returns c = rw (sym c.far_in.ensures ∙ c.if-far_in.false) c.far_in-2.ensures

pub far_in-requires : goal.far_in-requires
far_in-requires c = c.requires.given

pub far_in-requires-2 : goal.far_in-requires-2
far_in-requires-2 c = c.requires.points
