-- The lists of a replay that came to its end.
use Rattle.std.specs.Prelude.{◌≡◌}
use Rattle.laws.specs.Kit.{ℕ, List, length}
use Rattle.definition.specs.Lists.{flat_map}
use Rattle.definition.specs.Cells.{Mesh, tri_nodes, triangles}
use Rattle.definition.specs.Components.{component_sizes}
use Rattle.definition.specs.Call.{onto}
use Rattle.retrace.specs.Plays.{placed}
use Rattle.retrace.specs.declared.ending.Replayed.{Replayed}

-- the triangles that are left and the sizes of their components are at the front of their slices,
-- and the answer has the lengths of all lists
pub record FinishTo (o o' k k' : List ℕ) (m : Mesh) (r : Replayed) : Type 0 where
  pub out : o' ≡ onto (flat_map tri_nodes (triangles m)) o
  pub components : k' ≡ onto (component_sizes (triangles m)) k
  pub quads : r.quads ≡ length (placed m)
  pub left : r.triangles ≡ length (triangles m)
  pub points : r.points ≡ length m.points
  pub sizes : r.components ≡ length (component_sizes (triangles m))
