-- The smaller node first.
use Rattle.laws.specs.Kit.{arith}
use Rattle.laws.specs.Cells.{key_up, key_back}
use Rattle.joints.proofs.put_joint.Goals as goal

pub returns-then-a-b : goal.returns-then-a-b
returns-then-a-b c =
    let a = c.args in
    rw (key_up a.a a.b (omega arith)) c.put_edge.ensures

pub returns : goal.returns
returns c =
    let a = c.args in
    rw (key_back a.a a.b (omega arith)) c.put_edge-2.ensures
