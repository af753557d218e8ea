-- `accept_refusals::lent_cells::repeated_corner` meets its contract: no quad passed has a node twice. Assumes nothing.
use mathlib.Core.Path.{sym, ◌∙◌}
use Prim.{absurd}
use native.Mathlib.Nat.{not-suc-le-zero}
use native.Mathlib.Omega.{arith}
use borrow.Author.Count.{below_more}
use Rattle.laws.specs.Tables.{none_below}
use Rattle.accept.specs.Call.{corners_at, quad_twice}
use Rattle.accept_refusals.specs.Tests.{some_below}
use Rattle.accept_refusals.proofs.lent_cells.repeated_corner.Goals as goal

pub loop-i-init : goal.loop-i-init
loop-i-init c k h = absurd (not-suc-le-zero h)

pub returns-then-quad_twice : goal.returns-then-quad_twice
unfolding corners_at
returns-then-quad_twice c =
    let a = c.args in
    sym (some_below quad_twice (corners_at a.quads.now) a.n c.loop-i.i (omega arith) (sym c.quad_twice.ensures ∙ c.if-quad_twice.true))

pub loop-i-preserved : goal.loop-i-preserved
unfolding corners_at
loop-i-preserved c =
    below_more _ _ c.loop-i.invariant (sym c.quad_twice.ensures ∙ c.if-quad_twice.false)

pub returns : goal.returns
returns c =
    let a = c.args in
    sym (none_below quad_twice (corners_at a.quads.now) a.n (λ k h. c.loop-i.invariant k (omega arith)))
