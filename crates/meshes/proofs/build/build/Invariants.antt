use Rattle.std.specs.Prelude.{◌≤◌}
use Rattle.definition.specs.Cells.{Mesh}
use Rattle.laws.specs.Frames.{Keeps}
use Rattle.cells.specs.Layout.{mesh_end}
use Rattle.cells.specs.Rep.{Rep}
use Rattle.meshes.specs.Build.{IsNew}
use Rattle.meshes.proofs.build.build.Given as goal

abbrev pub invariant-loop-i : goal.invariant-loop-i
invariant-loop-i l = (l.i ≤ l.n) × Keeps l.initial.w l.w (mesh_end l.lay.slots l.lay.points) × ((m : Mesh) → IsNew m l.triangles l.i l.g → Rep l.w l.lay.slots l.lay.points m)
