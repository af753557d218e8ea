-- Without boxes there are none whose block is passed over.
use mathlib.Core.List.{List, []}
use Prim.Native.Nat.{ℕ, ◌+◌}
use native.Mathlib.Omega.{arith}
use Rattle.definition.specs.Cells.{Live, Mesh}
use Rattle.side_candidates.specs.Blocks.{Boxes}
use Rattle.candidates.proofs.pick.Goals as goal

no_boxes : (k : ℕ) (m : Mesh) (g : List Live) → Boxes [] (k + 1) k m g
no_boxes k m g = record { some = omega arith; few = omega arith; boxed = λ i l. absurd (omega arith) }

pub pick_among-requires : goal.pick_among-requires
pick_among-requires c =
    let y = c.requires in
    (y.0, y.1, y.2, no_boxes c.args.k y.0 _)

pub shape_of-w-then-k-lt-FEW_WALLS : goal.shape_of-w-then-k-lt-FEW_WALLS
shape_of-w-then-k-lt-FEW_WALLS c = c.pick_among.auto.w

pub returns-then-k-lt-FEW_WALLS : goal.returns-then-k-lt-FEW_WALLS
returns-then-k-lt-FEW_WALLS c =
    λ m g h. c.pick_among.ensures m g h (no_boxes c.args.k m _)

pub pick_boxed-requires : goal.pick_boxed-requires
pick_boxed-requires c =
    record { can_pick = c.requires; le_k = c.if-k-lt-FEW_WALLS.false }

pub shape_of-w : goal.shape_of-w
shape_of-w c = c.pick_boxed.auto.w

pub returns : goal.returns
returns c = λ m g h. c.pick_boxed.ensures m g h
