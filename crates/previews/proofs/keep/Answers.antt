-- The loop's invariant: the first i are kept.
use mathlib.Core.Path.{◌≡◌, refl}
use Prim.Native.Nat.{◌-◌, ◌≤◌}
use native.Mathlib.Omega.{arith}
use borrow.Author.Rules.{rules}
use lib.ListN.{length, length-set}
use Rattle.mesher.specs.Showing.{Holds}
use Rattle.mesher.proofs.Showing.{holds_more, holds_end}
use Rattle.previews.proofs.keep.Goals as goal

pub loop-i-init : goal.loop-i-init
loop-i-init c = (refl, omega arith, λ k h l. absurd (omega (arith, h)))

pub overflow_add-from : goal.overflow_add-from
overflow_add-from c = omega (arith, c.requires.0, c.loop-i-test.true)

pub shape_of-kept-then-from-i : goal.shape_of-kept-then-from-i
shape_of-kept-then-from-i c = c.loop-i.invariant.0

pub returns-then-from-i : goal.returns-then-from-i
returns-then-from-i c =
    let x = c.loop-i in
    let a = c.args in
    holds_end a.points.now x.kept a.from x.i 6 c.if-from-i.true x.invariant.2

pub overflow_add-kept : goal.overflow_add-kept
overflow_add-kept c = omega (arith, c.requires.0, c.loop-i-test.true)

pub bounds-points-from : goal.bounds-points-from
bounds-points-from c = omega (arith, c.if-from-i.false)

pub bounds-kept-i : goal.bounds-kept-i
bounds-kept-i c = omega (arith, c.loop-i.invariant.0, c.requires.1, c.loop-i-test.true)

pub loop-i-preserved : goal.loop-i-preserved
loop-i-preserved c =
    let x = c.loop-i in
    let a = c.args in (
      simp length-set x.invariant.0,
      omega (arith, c.loop-i-test.true),
      holds_more a.points.now x.kept a.from x.i (omega (arith, x.invariant.0, c.requires.1, c.loop-i-test.true)) x.invariant.2,
    )

pub shape_of-kept : goal.shape_of-kept
shape_of-kept c = c.loop-i.invariant.0

pub returns : goal.returns
returns c = let x = c.loop-i in λ k h l. x.invariant.2 k (omega (arith, h, c.loop-i-test.false)) l
