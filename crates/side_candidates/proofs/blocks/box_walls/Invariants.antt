use Rattle.std.proofs.Common.{◌≡◌, ◌*◌, List}
use Rattle.definition.specs.Cells.{Live, Mesh}
use Rattle.side_candidates.specs.Hand.{InHand}
use Rattle.side_candidates.specs.Blocks.{BoxedTo}
use Rattle.side_candidates.proofs.blocks.box_walls.Given as goal

-- the boxes before block j are those of its walls
abbrev pub invariant-loop-b : goal.invariant-loop-b
invariant-loop-b l = record {
  place : l.k ≡ l.b-index * l.size;
  boxed : (m : Mesh) (g : List Live) → InHand l.w l.q l.lay.slots l.lay.points l.n m g → BoxedTo l.h l.size m g l.b-index;
}
