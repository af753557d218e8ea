-- No joint passed is bad; the first that is answers.
use Rattle.laws.specs.Kit.{sym, ◌∙◌, arith, not-suc-le-zero}
use borrow.Author.Count.{below_more}
use Rattle.definition.specs.Call.{joint_at}
use Rattle.laws.specs.Bools.{never, holds}
use Rattle.refusals.specs.Stated.{asked}
use Rattle.refusals.specs.Passed.{few_joints, joints_each, joints_pass}
use Rattle.refusals.proofs.bad_joints.Goals as goal

pub returns-then-n-gt-MOST_JOINTS : goal.returns-then-n-gt-MOST_JOINTS
returns-then-n-gt-MOST_JOINTS c = λ l e. sym (holds _ (λ f. let h = few_joints (asked c.args.a) l f in omega arith))

pub loop-i-init : goal.loop-i-init
loop-i-init c = (omega arith, λ k h. absurd (not-suc-le-zero h))

pub returns-then-bad_joint : goal.returns-then-bad_joint
unfolding joint_at
returns-then-bad_joint c =
    λ l e.
    let t = sym c.bad_joint.ensures ∙ c.if-bad_joint.true in
    sym (holds _ (λ f. never _ t ((rw e at (joints_each (asked c.args.a) l f)) c.loop-i.i (omega arith))))

pub loop-i-preserved : goal.loop-i-preserved
unfolding joint_at
loop-i-preserved c =
    (omega arith, below_more _ _ c.loop-i.invariant.1 (sym c.bad_joint.ensures ∙ c.if-bad_joint.false))

pub returns : goal.returns
returns c = λ l e. sym (joints_pass _ l (omega arith) (rw e (λ k h. c.loop-i.invariant.1 k (omega arith))))
