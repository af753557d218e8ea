use Rattle.std.specs.Prelude.{◌≡◌}
use Rattle.laws.specs.Kit.{length}
use Rattle.definition.specs.Cells.{Mesh}
use Rattle.cells.specs.Walk.{left}
use Rattle.plane.specs.Vectors.{vec}
use Rattle.edge_candidates.specs.Wishes.{CanList}
use Rattle.edge_candidates.proofs.Givers.{Gather}
use Rattle.edge_candidates.proofs.wishes.list_givers.Given as goal

abbrev pub invariant-loop-c : goal.invariant-loop-c
invariant-loop-c l = (length l.w ≡ length l.initial.w) × ((m : Mesh) → CanList l.initial.w l.q l.lay.slots l.lay.points l.a l.other l.b m → Gather l.initial.w l.w l.q l.lay.slots l.lay.points l.b l.g l.c m l.a l.other (vec l.u))

abbrev pub decreases-loop-c : goal.decreases-loop-c
decreases-loop-c l = left l.initial.w l.lay.slots l.lay.points l.c
