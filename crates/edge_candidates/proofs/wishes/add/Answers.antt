use Rattle.laws.specs.Kit.{arith}
use Rattle.edge_candidates.proofs.wishes.add.Goals as goal

pub returns-then-yes : goal.returns-then-yes
returns-then-yes c = record { text = rw c.if-yes.true; count = rw c.if-yes.true; most = omega arith }

pub returns : goal.returns
returns c =
    let a = c.args in
    record { text = rw c.if-yes.false; count = rw c.if-yes.false (omega arith); most = omega arith }
