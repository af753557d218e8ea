-- The joints passed stand.
use native.Mathlib.Omega.{arith}
use native.Mathlib.Nat.{not-suc-le-zero}
use mathlib.Core.Path.{sym, ◌∙◌}
use Prim.{absurd}
use Prim.Native.Nat.{◌+◌, ◌*◌}
use borrow.Author.Count.{below_more}
use Rattle.definition.specs.Cells.{key}
use Rattle.definition.specs.Call.{joint_at}
use Rattle.lost_joints.proofs.first_lost.Goals as goal

pub loop-i-init : goal.loop-i-init
loop-i-init c j h = absurd (not-suc-le-zero h)

pub stands-requires : goal.stands-requires
stands-requires c =
    (c.requires.given_in, c.requires.result_in, c.requires.nodes (2 * c.loop-i.i) (omega arith), c.requires.nodes (2 * c.loop-i.i + 1) (omega arith))

pub returns-then-not-stands : goal.returns-then-not-stands
unfolding joint_at key
returns-then-not-stands c =
    (omega arith, sym c.stands.ensures ∙ c.if-not-stands.true, c.loop-i.invariant)

pub loop-i-preserved : goal.loop-i-preserved
unfolding joint_at key
loop-i-preserved c =
    below_more _ _ c.loop-i.invariant (sym c.stands.ensures ∙ c.if-not-stands.false)

pub returns : goal.returns
returns c = λ i h. c.loop-i.invariant i (omega arith)
