-- Joined where the edges are one.
use Rattle.groups.proofs.Links.{joined, unjoined}
use Rattle.groups.proofs.forest.join_equal.Goals as goal

pub returns-then-a-b : goal.returns-then-a-b
returns-then-a-b c =
    joined _ _ _ _ _ c.requires.1 c.requires.2 c.if-a-b.true c.join.ensures

pub returns : goal.returns
returns c = unjoined _ _ _ _ c.requires.0 c.if-a-b.false
