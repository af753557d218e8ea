-- No point passed is outside; the first that is answers.
use Rattle.std.specs.Prelude.{◌+◌, ◌*◌}
use Rattle.laws.specs.Kit.{sym, ◌∙◌, ap, arith, not-suc-le-zero, get_or}
use borrow.Author.Count.{below_more}
use Rattle.definition.specs.Floats.{0·0}
use Rattle.definition.specs.Call.{outside}
use Rattle.laws.specs.Bools.{never, holds}
use Rattle.refusals.specs.Stated.{asked}
use Rattle.refusals.specs.Passed.{near_each, near_pass}
use Rattle.refusals.proofs.Near.{read_point}
use Rattle.refusals.proofs.far_point.Goals as goal

pub loop-i-init : goal.loop-i-init
loop-i-init c = (omega arith, λ k h. absurd (not-suc-le-zero h))

pub returns-then-outside : goal.returns-then-outside
returns-then-outside c =
    λ l e.
    let ps = c.args.points.now in
    let i = c.loop-i.i in
    let o = c.outside.ensures (get_or ps (3 * i + 2) 0·0) ∙ ap outside (read_point ps i (omega arith)) in
    sym (holds _ (λ f. never _ (sym o ∙ c.if-outside.true) ((rw e at (near_each (asked c.args.a) l f)) i (omega arith))))

pub loop-i-preserved : goal.loop-i-preserved
loop-i-preserved c =
    let ps = c.args.points.now in
    let i = c.loop-i.i in
    let o = c.outside.ensures (get_or ps (3 * i + 2) 0·0) ∙ ap outside (read_point ps i (omega arith)) in
    (omega arith, below_more _ _ c.loop-i.invariant.1 (sym o ∙ c.if-outside.false))

pub returns : goal.returns
returns c = λ l e. sym (near_pass _ l (rw e (λ k h. c.loop-i.invariant.1 k (omega arith))))
