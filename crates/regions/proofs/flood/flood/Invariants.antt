use Rattle.std.specs.Prelude.{◌≡◌, ◌-◌, ◌^◌, ◌≤◌, ◌∷◌}
use Rattle.laws.specs.Kit.{[], length}
use Rattle.definition.specs.Cells.{Mesh, new_quad, quad_edges}
use Rattle.definition.specs.Region.{flood}
use Rattle.cells.specs.Rep.{Rep, TriIn}
use Rattle.regions.specs.Flood.{tri_live}
use Rattle.regions.proofs.Floods.{Flooding}
use Rattle.regions.proofs.flood.flood.Given as goal

abbrev pub invariant-loop-head : goal.invariant-loop-head
invariant-loop-head l =
    (length l.w ≡ length l.initial.w) × (l.n ≤ l.lay.slots) × (l.lay.slots ≤ 2 ^ 32)
    × ((m : Mesh) → Rep l.initial.w l.lay.slots l.lay.points m → (ti : TriIn m l.i) → m.used ≡ l.used → Flooding l.initial.w l.w l.lay.slots l.lay.points l.n l.head m (quad_edges (new_quad l.a l.b l.c l.d)) (flood m.used m (quad_edges (new_quad l.a l.b l.c l.d)) [] (tri_live l.i ti.t ∷ [])))

abbrev pub decreases-loop-head : goal.decreases-loop-head
decreases-loop-head l = l.lay.slots - l.head
