-- The word at the order's place i.
use Rattle.laws.specs.Kit.{rules}
use Rattle.edges.proofs.number_on.Goals as goal

pub returns : goal.returns
returns c = cc (c.wide.ensures, c.order_at-o.ensures)
