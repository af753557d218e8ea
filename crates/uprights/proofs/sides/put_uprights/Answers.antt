-- The places passed have the numbers of the sides of upright triangles.
use native.Mathlib.Omega.{arith}
use mathlib.Core.Path.{refl, ◌∙◌}
use Prim.{absurd}
use Prim.Native.Nat.{◌+◌, ◌*◌}
use Rattle.definition.specs.Call.{tri_at}
use Rattle.uprights.proofs.Words.{one_more}
use Rattle.uprights.proofs.sides.put_uprights.Goals as goal

pub loop-i-init : goal.loop-i-init
loop-i-init c = (refl, λ j h. absurd (omega arith), λ j h. refl)

pub put_upright-requires : goal.put_upright-requires
put_upright-requires c =
    let i = c.loop-i.i in
    (c.requires.nodes (3 * i) (omega arith), c.requires.nodes (3 * i + 1) (omega arith), c.requires.nodes (3 * i + 2) (omega arith), omega arith)

pub loop-i-preserved : goal.loop-i-preserved
unfolding tri_at
loop-i-preserved c =
    let e = c.put_upright.ensures in (
      e.size ∙ c.loop-i.invariant.0,
      one_more c.args.points.now c.args.triangles.now c.args.n c.args.turned _ _ c.args.at c.loop-i.i (omega arith) c.loop-i.invariant.1 e,
      λ j h. e.kept j (omega arith) ∙ c.loop-i.invariant.2 j h,
    )

pub returns : goal.returns
returns c =
    record { size = c.loop-i.invariant.0; there = λ j l. c.loop-i.invariant.1 j (omega arith); kept = c.loop-i.invariant.2 }
