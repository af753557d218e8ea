use Rattle.std.proofs.Common.{◌≤◌, List}
use lib.Ieee.{Float}
use Rattle.definition.specs.Cells.{Live, Mesh}
use Rattle.side_candidates.specs.Hand.{InHand}
use Rattle.side_candidates.proofs.Keeping.{Keeping}
use Rattle.side_candidates.proofs.inside.keep_walls.Given as goal

-- of the triangles before place i the r with a wall are at the front
abbrev pub invariant-loop-i : goal.invariant-loop-i
invariant-loop-i l = record {
  few : l.r ≤ l.i;
  keeping : (q : List Float) (m : Mesh) (region : List Live) → InHand l.initial.w q l.fn.lay.slots l.fn.lay.points l.k m region → Keeping l.initial.w l.w l.fn.lay.slots l.fn.lay.points l.k l.i l.r m region;
}
