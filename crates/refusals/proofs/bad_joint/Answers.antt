-- The two nodes are one, or one is not below the given points; otherwise the joint passes.
use Rattle.laws.specs.Kit.{sym, ◌∙◌, arith, eq-eqb, leb-false}
use borrow.Author.Tests.{leb-true}
use Rattle.laws.specs.Bools.{never}
use Rattle.refusals.proofs.Pairs.{one_node, unknown, second}
use Rattle.refusals.proofs.bad_joint.Goals.{then-u-v, else-u-v}
use Rattle.refusals.proofs.bad_joint.Goals as goal

pub returns-then-wide-given : goal.returns-then-wide-given
returns-then-wide-given c =
    let a = c.args in
    elim c.if-u-v.branch [
      | then-u-v w ↦ c.if-wide-given.true ∙ sym (one_node a.given a.u a.v w.if-u-v.true)
      | else-u-v w ↦ c.if-wide-given.true ∙ sym (unknown a.given a.u a.v w.if-u-v.false (omega (arith, leb-true _ _ (sym w.value-is ∙ c.if-wide-given.true), w.wide.ensures)))
    ]

pub returns-else-wide-given : goal.returns-else-wide-given
returns-else-wide-given c =
    let a = c.args in
    elim c.if-u-v.branch [
      | then-u-v w ↦ never _ (w.value-is ∙ eq-eqb _ _ w.if-u-v.true) c.if-wide-given.false
      | else-u-v w ↦ second a.given a.u a.v _ w.if-u-v.false (omega (arith, leb-false _ _ (sym w.value-is ∙ c.if-wide-given.false), w.wide.ensures)) c.wide-else-wide-given.ensures
    ]
