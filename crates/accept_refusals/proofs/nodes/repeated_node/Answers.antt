-- `accept_refusals::nodes::repeated_node` meets its contract: one list after the other. Assumes nothing.
use Rattle.std.proofs.Common.{sym, ◌∙◌}
use Rattle.accept_refusals.proofs.nodes.repeated_node.Goals as goal

pub repeated_in-requires : goal.repeated_in-requires
repeated_in-requires c = c.requires.triangles

pub returns-then-repeated_in : goal.returns-then-repeated_in
returns-then-repeated_in c = rw (sym c.repeated_in.ensures ∙ c.if-repeated_in.true)

pub repeated_corner-requires : goal.repeated_corner-requires
repeated_corner-requires c = c.requires.quads

pub returns-then-repeated_corner : goal.returns-then-repeated_corner
returns-then-repeated_corner c = rw (sym c.repeated_in.ensures ∙ c.if-repeated_in.false, sym c.repeated_corner.ensures ∙ c.if-repeated_corner.true)

pub repeated_in-requires-2 : goal.repeated_in-requires-2
repeated_in-requires-2 c = c.requires.left

pub returns : goal.returns
returns c = rw (sym c.repeated_in.ensures ∙ c.if-repeated_in.false, sym c.repeated_corner.ensures ∙ c.if-repeated_corner.false) c.repeated_in-2.ensures
