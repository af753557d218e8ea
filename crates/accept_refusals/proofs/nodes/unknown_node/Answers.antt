-- `accept_refusals::nodes::unknown_node` meets its contract: one list after the other. Assumes nothing.
use Rattle.std.proofs.Common.{sym, ◌∙◌}
use Rattle.accept_refusals.proofs.nodes.unknown_node.Goals as goal

pub unknown_in-requires : goal.unknown_in-requires
unknown_in-requires c = c.requires.triangles

pub returns-then-unknown_in : goal.returns-then-unknown_in
returns-then-unknown_in c = rw (sym c.unknown_in.ensures ∙ c.if-unknown_in.true)

pub unknown_corner-requires : goal.unknown_corner-requires
unknown_corner-requires c = c.requires.quads

pub returns-then-unknown_corner : goal.returns-then-unknown_corner
returns-then-unknown_corner c = rw (sym c.unknown_in.ensures ∙ c.if-unknown_in.false, sym c.unknown_corner.ensures ∙ c.if-unknown_corner.true)

pub unknown_in-requires-2 : goal.unknown_in-requires-2
unknown_in-requires-2 c = c.requires.left

pub returns : goal.returns
returns c = rw (sym c.unknown_in.ensures ∙ c.if-unknown_in.false, sym c.unknown_corner.ensures ∙ c.if-unknown_corner.false) c.unknown_in-2.ensures
