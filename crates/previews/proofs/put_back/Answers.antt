-- The loop's invariant: the first i are put back.
use Prim.Native.Nat.{◌-◌, ◌≤◌}
use native.Mathlib.Omega.{arith}
use borrow.Author.Rules.{rules}
use Rattle.mesher.specs.Showing.{Back}
use Rattle.mesher.proofs.Showing.{back_start, back_more}
use Rattle.previews.proofs.put_back.Goals as goal

pub loop-i-init : goal.loop-i-init
loop-i-init c = (omega arith, back_start c.args.points.now c.args.kept.now c.args.from)

pub bounds-kept-i : goal.bounds-kept-i
bounds-kept-i c = omega (arith, c.loop-i-test.true, c.requires.0)

pub overflow_add-points : goal.overflow_add-points
overflow_add-points c = omega (arith, c.loop-i-test.true, c.requires.2, c.requires.3)

pub bounds-points-from : goal.bounds-points-from
bounds-points-from c = omega (arith, c.loop-i-test.true, c.requires.1, c.loop-i.invariant.1.len)

pub loop-i-preserved : goal.loop-i-preserved
loop-i-preserved c =
    let x = c.loop-i in
    let a = c.args in
    (omega (arith, c.loop-i-test.true), back_more a.points.now x.points a.kept.now a.from x.i (omega (arith, c.loop-i-test.true, c.requires.1)) x.invariant.1)

pub shape_of-points : goal.shape_of-points
shape_of-points c = c.loop-i.invariant.1.len

pub returns : goal.returns
returns c =
    let x = c.loop-i in
    let b = x.invariant.1 in
    record {
      len = b.len;
      low = b.low;
      back = λ i h. b.back i (omega (arith, h, c.loop-i-test.false));
      high = λ i h. b.high i (omega (arith, h, x.invariant.0));
    }
