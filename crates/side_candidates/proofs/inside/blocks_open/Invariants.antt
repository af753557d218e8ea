use Rattle.std.proofs.Common.{true, List, ◌*◌}
use Rattle.definition.specs.Cells.{Live, Mesh}
use Rattle.definition.specs.Candidates.{walls, segment_inside}
use Rattle.side_candidates.specs.Hand.{Ends}
use Rattle.side_candidates.specs.Blocks.{Fence, Through}
use Rattle.side_candidates.proofs.inside.blocks_open.Given as goal

-- the cells of the blocks before block j pass, or all do
abbrev pub invariant-loop-j : goal.invariant-loop-j
invariant-loop-j l = (m : Mesh) (g : List Live) → Fence l.w l.q l.lay.slots l.lay.points l.n l.h.boxes.now l.h.size m g → Ends m l.a l.b → Through l.w l.lay.slots l.lay.points l.n (l.j * l.h.size) m l.a l.b (segment_inside m l.a l.b (walls m g)) true
