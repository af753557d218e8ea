-- The word at the number of the edge.
use Rattle.laws.specs.Kit.{rules}
use Rattle.edges.proofs.second_on.Goals as goal

pub returns : goal.returns
returns c = cc c.wide.ensures
