-- No quad passed has an unknown corner; the first that has one answers.
use Rattle.laws.specs.Kit.{sym, ◌∙◌, arith, not-suc-le-zero}
use borrow.Author.Count.{below_more}
use Rattle.laws.specs.Bools.{never, holds}
use Rattle.sheet.specs.Refusals.{corners_each, corners_pass}
use Rattle.sheet.proofs.conditions.unknown_corner.Goals as goal

pub loop-i-init : goal.loop-i-init
loop-i-init c = (omega arith, λ k h. absurd (not-suc-le-zero h))

pub returns-then-unknown_in : goal.returns-then-unknown_in
returns-then-unknown_in c =
    λ l g n q.
    let e = sym c.unknown_in.ensures ∙ c.if-unknown_in.true in
    sym (holds _ (λ f. never _ e (rw (g, n, q) at (corners_each l f) c.loop-i.i (omega arith))))

pub loop-i-preserved : goal.loop-i-preserved
loop-i-preserved c =
    (omega arith, below_more _ _ c.loop-i.invariant.1 (sym c.unknown_in.ensures ∙ c.if-unknown_in.false))

pub returns : goal.returns
returns c = λ l g n q. sym (corners_pass l (rw (g, n, q) (λ k h. c.loop-i.invariant.1 k (omega arith))))
