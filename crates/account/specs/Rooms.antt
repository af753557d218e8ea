-- Splits and quads are made only where there is room:
-- no state has more points than the capacity, nor more slots in use than were lent.
use Rattle.std.specs.Prelude.{◌≡◌, ◌+◌, ◌≤◌}
use Rattle.laws.specs.Kit.{ap, Bool, ℕ, arith, List, length}
use Rattle.definition.specs.Numbers.{Settings}
use Rattle.definition.specs.Plane.{Edge, Node}
use Rattle.definition.specs.Cells.{Tri, Mesh, with_live, noting, set_cell, push_cell}
use Rattle.definition.specs.Insertion.{with_point, split_triangle}
use Rattle.definition.specs.Front.{counting, new_mesh, start}
use Rattle.account.specs.Run.{Rule}

-- the mesh fits what was lent
pub record Fits (s : Settings) (m : Mesh) : Type 0 where
  pub points : length m.points ≤ s.capacity
  pub slots : m.used ≤ s.slots
