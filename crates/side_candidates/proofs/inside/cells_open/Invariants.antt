use Rattle.std.proofs.Common.{List}
use Rattle.definition.specs.Cells.{Live, Mesh}
use Rattle.definition.specs.Candidates.{walls, segment_inside}
use Rattle.side_candidates.specs.Blocks.{open_cell, Passing, CanPass}
use Rattle.side_candidates.proofs.inside.cells_open.Given as goal

-- the cells from place g on decide
abbrev pub invariant-loop-g : goal.invariant-loop-g
invariant-loop-g l = (m : Mesh) (g : List Live) → CanPass l.w l.q l.lay.slots l.lay.points l.n l.j m g l.a l.b → Passing l.w l.lay.slots l.lay.points l.n l.g m (open_cell m l.a l.b) (segment_inside m l.a l.b (walls m g))
