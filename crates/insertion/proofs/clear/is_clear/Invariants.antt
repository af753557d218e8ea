use Rattle.std.specs.Prelude.{◌≤◌}
use Rattle.definition.specs.Plane.{flat}
use Rattle.definition.specs.Cells.{Mesh}
use Rattle.insertion.specs.Hold.{Drawn}
use Rattle.insertion.proofs.Clears.{Clearing}
use Rattle.insertion.proofs.clear.is_clear.Given as goal

abbrev pub invariant-loop-k : goal.invariant-loop-k
invariant-loop-k l = (l.k ≤ l.n) × ((m : Mesh) → Drawn l.w l.q l.lay.slots l.lay.points m → Clearing l.w l.lay.slots l.i l.n l.k m (flat l.x l.y) l.spacing)
