-- Of no joints none is lost.
use borrow.Author.Rules.{rules}
use Rattle.definition.specs.Lists.{table, numbers, below}
use Rattle.accept.specs.Accept.{failing}
use Rattle.lost_joints.proofs.lost_joint.Goals as goal

pub returns-then-n-eq0 : goal.returns-then-n-eq0
unfolding failing table below numbers
returns-then-n-eq0 c = search rules
