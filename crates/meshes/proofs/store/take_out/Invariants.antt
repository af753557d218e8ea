use Rattle.std.specs.Prelude.{◌≤◌}
use Rattle.definition.specs.Cells.{Mesh}
use Rattle.laws.specs.Frames.{Keeps}
use Rattle.cells.specs.Layout.{fronts_at}
use Rattle.cells.specs.Rep.{Rep}
use Rattle.meshes.proofs.Removes.{Lifting}
use Rattle.meshes.proofs.store.take_out.Given as goal

abbrev pub invariant-loop-k : goal.invariant-loop-k
invariant-loop-k l =
    (l.k ≤ l.n) × Keeps l.initial.w l.w (fronts_at l.lay.slots l.lay.points) × ((m : Mesh) → Rep l.initial.w l.lay.slots l.lay.points m → Lifting l.initial.w l.w l.lay.slots l.lay.points l.i l.k m.live)
