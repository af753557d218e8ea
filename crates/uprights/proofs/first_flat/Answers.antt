-- The triangles passed have an area.
use native.Mathlib.Omega.{arith}
use native.Mathlib.Nat.{not-suc-le-zero}
use mathlib.Core.Path.{sym, ◌∙◌}
use Prim.{absurd}
use Prim.Native.Nat.{◌+◌, ◌*◌}
use borrow.Author.Count.{below_more}
use Rattle.definition.specs.Call.{tri_at}
use Rattle.uprights.proofs.first_flat.Goals as goal

pub loop-i-init : goal.loop-i-init
loop-i-init c k h = absurd (not-suc-le-zero h)

pub has_area-requires : goal.has_area-requires
has_area-requires c =
    let i = c.loop-i.i in
    (c.requires.nodes (3 * i) (omega arith), c.requires.nodes (3 * i + 1) (omega arith), c.requires.nodes (3 * i + 2) (omega arith))

pub returns-then-not-has_area : goal.returns-then-not-has_area
unfolding tri_at
returns-then-not-has_area c = (c.loop-i-test.true, sym c.has_area.ensures ∙ c.if-not-has_area.true, c.loop-i.invariant)

pub loop-i-preserved : goal.loop-i-preserved
unfolding tri_at
loop-i-preserved c = below_more _ _ c.loop-i.invariant (sym c.has_area.ensures ∙ c.if-not-has_area.false)

pub returns : goal.returns
returns c i l = c.loop-i.invariant i (omega arith)
