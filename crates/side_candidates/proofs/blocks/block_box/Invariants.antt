use Rattle.std.proofs.Common.{List}
use Rattle.definition.specs.Cells.{Live, Mesh}
use Rattle.side_candidates.specs.Hand.{InHand}
use Rattle.side_candidates.specs.Blocks.{FramedFrom}
use Rattle.side_candidates.proofs.blocks.block_box.Given as goal

-- the walls of the cells up to place i lie in the box
abbrev pub invariant-loop-i : goal.invariant-loop-i
invariant-loop-i l = (m : Mesh) (g : List Live) → InHand l.w l.q l.lay.slots l.lay.points l.n m g → FramedFrom m l.b g l.j l.i
