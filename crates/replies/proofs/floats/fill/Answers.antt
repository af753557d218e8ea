-- `floats::fill`. Invariant: the first i floats are there.
use mathlib.Core.Path.{◌≡◌, refl, ap, ◌∙◌}
use lib.ListN.{set, length-set}
use native.Mathlib.Omega.{arith}
use Rattle.replies.specs.Tells.{filled}
use Rattle.replies.proofs.Fills.{filled_none, filled_more}
use Rattle.replies.proofs.floats.fill.Goals as goal

pub loop-i-preserved : goal.loop-i-preserved
loop-i-preserved c =
    let a = c.args in
    let l = c.loop-i in
    let v = c.float_of.result in (
      omega arith,
      length-set l.points l.i v ∙ l.invariant.1,
      ap (λ ys. set ys l.i v) l.invariant.2
          ∙ ap (λ y. set (filled l.i a.bits.now a.points.now) l.i y) c.float_of.ensures
          ∙ filled_more l.i a.bits.now a.points.now (omega (arith, c.requires)) (omega (arith, c.requires)),
    )

pub returns : goal.returns
returns c =
    let a = c.args in
    let l = c.loop-i in
    let e : l.i ≡ a.n = omega arith in
    l.invariant.2 ∙ ap (λ k. filled k a.bits.now a.points.now) e

pub loop-i-init : goal.loop-i-init
loop-i-init c = (omega arith, refl, filled_none _ _)

pub shape_of-points : goal.shape_of-points
shape_of-points c = c.loop-i.invariant.1
