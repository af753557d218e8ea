use mathlib.Core.List.{List}
use Prim.Native.Nat.{◌≤◌}
use lib.Ieee.{Float}
use Rattle.definition.specs.Cells.{Live, Mesh}
use Rattle.side_candidates.specs.Hand.{InHand}
use Rattle.candidates.proofs.Growth.{Read}
use Rattle.candidates.proofs.spans.with_region.Given as goal

abbrev pub invariant-loop-i : goal.invariant-loop-i
invariant-loop-i l = (l.i ≤ l.k) × ((q : List Float) (m : Mesh) (region : List Live) → InHand l.w q l.lay.slots l.lay.points l.k m region → Read l.w l.lay.slots l.lay.points l.k l.i m region l.initial.h l.h)
