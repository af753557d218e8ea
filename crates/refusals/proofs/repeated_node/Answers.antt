-- No triangle passed has a node twice; the first that has answers.
use Rattle.laws.specs.Kit.{sym, ◌∙◌, arith, not-suc-le-zero}
use borrow.Author.Count.{below_more}
use Rattle.definition.specs.Call.{tri_at}
use Rattle.laws.specs.Bools.{never, holds}
use Rattle.refusals.specs.Stated.{asked}
use Rattle.refusals.specs.Passed.{apart_each, apart_pass}
use Rattle.refusals.proofs.repeated_node.Goals as goal

pub loop-i-init : goal.loop-i-init
loop-i-init c = (omega arith, λ k h. absurd (not-suc-le-zero h))

pub returns-then-twice : goal.returns-then-twice
unfolding tri_at
returns-then-twice c =
    λ l e.
    let t = sym c.twice.ensures ∙ c.if-twice.true in
    sym (holds _ (λ f. never _ t ((rw e at (apart_each (asked c.args.a) l f)) c.loop-i.i (omega arith))))

pub loop-i-preserved : goal.loop-i-preserved
unfolding tri_at
loop-i-preserved c =
    (omega arith, below_more _ _ c.loop-i.invariant.1 (sym c.twice.ensures ∙ c.if-twice.false))

pub returns : goal.returns
returns c = λ l e. sym (apart_pass _ l (rw e (λ k h. c.loop-i.invariant.1 k (omega arith))))
