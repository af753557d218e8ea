use Rattle.std.specs.Prelude.{◌≤◌}
use Rattle.definition.specs.Plane.{flat}
use Rattle.definition.specs.Cells.{Mesh}
use Rattle.live_regions.specs.Stack.{Lent}
use Rattle.insertion.proofs.Holders.{Unheld}
use Rattle.insertion.proofs.holder.first_in_order.Given as goal

abbrev pub invariant-loop-i : goal.invariant-loop-i
invariant-loop-i l = (l.i ≤ l.used) × ((m : Mesh) → Lent l.w l.q l.lay.slots l.lay.points l.used m → Unheld m (flat l.x l.y) l.i)
