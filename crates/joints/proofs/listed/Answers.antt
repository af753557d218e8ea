-- No joint passed is u-v; the first that is answers.
use Rattle.laws.specs.Kit.{sym, ◌∙◌, arith, not-suc-le-zero}
use borrow.Author.Count.{below_more}
use Rattle.joints.proofs.Searches.{unlisted, found}
use Rattle.joints.proofs.listed.Goals as goal

pub bounds-j-1024 : goal.bounds-j-1024
bounds-j-1024 c = omega (arith, c.requires.1.long)

pub loop-i-init : goal.loop-i-init
loop-i-init c = (omega arith, λ k h. absurd (not-suc-le-zero h))

pub is_joint-requires : goal.is_joint-requires
is_joint-requires c =
    let k = c.requires.1 in
    omega (arith, k.long, k.few, c.wide-n.ensures)

pub returns-then-is_joint : goal.returns-then-is_joint
returns-then-is_joint c = λ es h.
    let a = c.args in
    sym (found a.j.now es h (a.u, a.v) c.loop-i.i (omega (arith, c.wide-n.ensures)) (sym c.is_joint.ensures ∙ c.if-is_joint.true))

pub loop-i-preserved : goal.loop-i-preserved
loop-i-preserved c =
    (omega arith, below_more _ _ c.loop-i.invariant.1 (sym c.is_joint.ensures ∙ c.if-is_joint.false))

pub returns : goal.returns
returns c = λ es h.
    let l = c.loop-i in
    let a = c.args in
    sym (unlisted a.j.now es h (a.u, a.v) (λ k b. l.invariant.1 k (omega (arith, c.wide-n.ensures))))
