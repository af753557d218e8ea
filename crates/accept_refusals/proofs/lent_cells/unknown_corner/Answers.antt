-- `accept_refusals::lent_cells::unknown_corner` meets its contract: every word passed names a point. Assumes nothing.
use mathlib.Core.Path.{sym}
use Prim.{absurd}
use native.Mathlib.Nat.{not-suc-le-zero}
use native.Mathlib.Omega.{arith}
use borrow.Author.Count.{below_more}
use Rattle.laws.specs.Bools.{holds}
use Rattle.accept_refusals.specs.Tests.{quads_known, quads_pass}
use Rattle.accept_refusals.proofs.lent_cells.unknown_corner.Goals as goal

pub loop-i-init : goal.loop-i-init
loop-i-init c k h = absurd (not-suc-le-zero h)

pub returns-then-wide-m : goal.returns-then-wide-m
returns-then-wide-m c =
    let a = c.args in
    let w = c.wide.ensures in
    sym (holds _ (λ f. let h = quads_known a.m a.n a.quads.now f c.loop-i.i (omega arith) in omega arith))

pub loop-i-preserved : goal.loop-i-preserved
loop-i-preserved c =
    let w = c.wide.ensures in
    below_more _ _ c.loop-i.invariant (omega arith)

pub returns : goal.returns
returns c =
    let a = c.args in
    sym (quads_pass a.m a.n a.quads.now (λ k h. c.loop-i.invariant k (omega arith)))
