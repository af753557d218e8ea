use Rattle.definition.specs.Candidates.{turned}
use Rattle.plane.specs.Vectors.{vec}
use Rattle.edge_candidates.proofs.turned.Goals as goal

pub returns-then-left : goal.returns-then-left
unfolding vec turned
returns-then-left c =
    rw c.if-left.true

pub returns : goal.returns
unfolding vec turned
returns c =
    rw c.if-left.false
