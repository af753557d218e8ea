use mathlib.Core.List.{List}
use lib.Ieee.{Float}
use Rattle.definition.specs.Cells.{Live, Mesh}
use Rattle.side_candidates.specs.Hand.{InHand}
use Rattle.candidates.proofs.Words.{Marking}
use Rattle.candidates.proofs.marks.mark_region.Given as goal

-- the words of the nodes of the triangles before place i are put
abbrev pub invariant-loop-i : goal.invariant-loop-i
invariant-loop-i l = (q : List Float) (m : Mesh) (region : List Live) → InHand l.initial.w q l.lay.slots l.lay.points l.k m region → Marking l.initial.w l.w l.lay.slots l.lay.points l.k l.i l.b m region
