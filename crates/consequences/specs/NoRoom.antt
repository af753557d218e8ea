-- When an insertion ends a run: 8 only where no point is free, 9 only where a point is and two slots are not,
-- 11 only where a point and two slots are; 8 is therefore tested before 9 and 9 before 11.
use Rattle.std.specs.Prelude.{◌+◌, ◌<◌, ◌≤◌}
use Rattle.laws.specs.Kit.{cond, Option, none, some, ℕ, ltb, leb, ltb-true, ltb-false, leb-false, length, Float}
use borrow.Author.Tests.{leb-true}
use Rattle.definition.specs.Floats.{◌⊗◌}
use Rattle.definition.specs.Numbers.{Settings, node_spacing}
use Rattle.definition.specs.Counts.{of_points, of_slots, of_trace}
use Rattle.definition.specs.Plane.{Node}
use Rattle.definition.specs.Cells.{Cell, tri, quad, Live, Mesh, cell_of}
use Rattle.definition.specs.Trace.{in_room}
use Rattle.definition.specs.Insertion.{Inserted, nowhere, inserted, full, point_clear, slot_clear, holder, split_triangle, split, split_clear, insert_near}
use Rattle.laws.specs.Bools.{cond_ok}

module _ (s : Settings) (m : Mesh) where
  -- what is lacking where an insertion ends the run
  abbrev pub Lacking : Inserted → Type 0
  Lacking nowhere = Unit {0}
  Lacking (inserted v m') = Unit {0}
  Lacking (full of_points) = s.capacity ≤ length m.points
  Lacking (full of_slots) = (length m.points < s.capacity) × (s.slots < m.used + 2)
  Lacking (full of_trace) = (length m.points < s.capacity) × (m.used + 2 ≤ s.slots)
