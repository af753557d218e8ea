-- Nodes of the mesh as they are read.
use Rattle.std.specs.Prelude.{◌≡◌}
use Rattle.laws.specs.Kit.{ℕ, List, Float}
use Rattle.definition.specs.Cells.{Mesh, node_at}
use Rattle.definition.specs.Call.{point_at}

-- four nodes of the mesh stand in the points slice
pub record Four (q : List Float) (m : Mesh) (u v a b : ℕ) : Type 0 where
  pub u_is : node_at m u ≡ point_at q u
  pub v_is : node_at m v ≡ point_at q v
  pub a_is : node_at m a ≡ point_at q a
  pub b_is : node_at m b ≡ point_at q b
