-- `accept_refusals::nodes::bad_joints` meets its contract: no joint passed is bad. Assumes nothing.
use mathlib.Core.Path.{sym, ◌∙◌}
use Prim.{absurd}
use native.Mathlib.Nat.{not-suc-le-zero}
use native.Mathlib.Omega.{arith}
use borrow.Author.Count.{below_more}
use Rattle.definition.specs.Call.{joint_at, bad_joint}
use Rattle.laws.specs.Tables.{none_below}
use Rattle.accept_refusals.specs.Tests.{some_below}
use Rattle.accept_refusals.proofs.nodes.bad_joints.Goals as goal

pub loop-i-init : goal.loop-i-init
loop-i-init c k h = absurd (not-suc-le-zero h)

pub returns-then-bad_joint : goal.returns-then-bad_joint
unfolding joint_at
returns-then-bad_joint c =
    let a = c.args in
    sym (some_below (bad_joint a.given) (joint_at a.joints.now) a.n c.loop-i.i (omega arith) (sym c.bad_joint.ensures ∙ c.if-bad_joint.true))

pub loop-i-preserved : goal.loop-i-preserved
unfolding joint_at
loop-i-preserved c =
    below_more _ _ c.loop-i.invariant (sym c.bad_joint.ensures ∙ c.if-bad_joint.false)

pub returns : goal.returns
returns c =
    let a = c.args in
    sym (none_below (bad_joint a.given) (joint_at a.joints.now) a.n (λ k h. c.loop-i.invariant k (omega arith)))
