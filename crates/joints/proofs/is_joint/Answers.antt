-- Joint i is u-v where both words are the nodes.
use Rattle.joints.proofs.Searches.{joint_is, joint_other}
use Rattle.joints.proofs.is_joint.Goals as goal

pub returns-then-wide-u : goal.returns-then-wide-u
returns-then-wide-u c =
    let a = c.args in
    joint_is a.j.now a.i a.u a.v c.wide.result c.wide-then-wide-u.result c.wide.ensures c.if-wide-u.true c.wide-then-wide-u.ensures

pub returns : goal.returns
returns c =
    let a = c.args in
    joint_other a.j.now a.i a.u a.v c.wide.result c.wide.ensures c.if-wide-u.false
