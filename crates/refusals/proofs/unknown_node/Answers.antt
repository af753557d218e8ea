-- Every entry passed is below the given points; the first that is not answers.
use Rattle.laws.specs.Kit.{sym, arith}
use borrow.Author.Count.{below_more}
use Rattle.laws.specs.Bools.{holds}
use Rattle.refusals.specs.Stated.{asked}
use Rattle.refusals.specs.Passed.{known, known_pass}
use Rattle.refusals.proofs.unknown_node.Goals as goal

pub returns-then-wide-given : goal.returns-then-wide-given
returns-then-wide-given c =
    λ l e.
    let w = c.wide.ensures in
    sym (holds _ (λ f. let h = (rw e at (known (asked c.args.a) l f)) c.loop-i.i (omega arith) in omega arith))

pub loop-i-preserved : goal.loop-i-preserved
loop-i-preserved c =
    let w = c.wide.ensures in
    (omega arith, below_more _ _ c.loop-i.invariant.1 (omega arith))

pub returns : goal.returns
returns c = λ l e. sym (known_pass _ l (rw e (λ k h. c.loop-i.invariant.1 k (omega arith))))
