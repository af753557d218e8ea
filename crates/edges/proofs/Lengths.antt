-- A length as the points slice has it.
use Rattle.std.specs.Prelude.{◌≡◌}
use Rattle.laws.specs.Kit.{sym, ◌∙◌, ap, ℕ, List, length, Float}
use Rattle.definition.specs.Plane.{Node, Edge, dist, edge_length}
use Rattle.definition.specs.Cells.{Mesh}
use Rattle.definition.specs.Call.{point_at}
use Rattle.plane.specs.Points.{edge_length_of}
use Rattle.cells.specs.Rep.{Pts}
use Rattle.edges.specs.Places.{Known}

pub length_read : (q : List Float) (p : ℕ) (m : Mesh) (e : Edge) → Pts q p m → Known (length m.points) e → (x : Float) (u v : ℕ) → u ≡ e.0 → v ≡ e.1
    → x ≡ dist (point_at q v) (point_at q u) → x ≡ edge_length m.points e
length_read q p m e t k x u v hu hv h =
    h ∙ ap (λ (z : ℕ). dist (point_at q v) (point_at q z)) hu ∙ ap (λ (z : ℕ). dist (point_at q z) (point_at q e.0)) hv
    ∙ sym (edge_length_of (length m.points) q e.0 e.1 k.first k.second)
    ∙ ap (λ (ps : List Node). edge_length ps e) (sym t.are)
