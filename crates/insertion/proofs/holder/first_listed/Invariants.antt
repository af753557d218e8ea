use Rattle.std.specs.Prelude.{◌≤◌}
use Rattle.laws.specs.Kit.{List}
use Rattle.definition.specs.Lists.{find}
use Rattle.definition.specs.Plane.{flat}
use Rattle.definition.specs.Cells.{Live, Mesh}
use Rattle.side_candidates.specs.Hand.{InHand}
use Rattle.insertion.specs.Hold.{holds_at}
use Rattle.insertion.proofs.Holders.{Seeking}
use Rattle.insertion.proofs.holder.first_listed.Given as goal

abbrev pub invariant-loop-j : goal.invariant-loop-j
invariant-loop-j l = (l.j ≤ l.k) × ((m : Mesh) (g : List Live) → InHand l.w l.q l.lay.slots l.lay.points l.k m g → Seeking l.w l.lay.slots l.lay.points l.k l.j m (holds_at m (flat l.x l.y)) (find (holds_at m (flat l.x l.y)) g))
