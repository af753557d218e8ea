-- Which edges are locked is given once: no step of a run changes it.
use Rattle.std.specs.Prelude.{◌≡◌, ◌+◌, ◌∷◌}
use Rattle.laws.specs.Kit.{refl, ◌∙◌, ap, cond, Option, none, some, ℕ, ltb, leb, List, [], length, Float}
use Rattle.definition.specs.Floats.{◌⊗◌}
use Rattle.definition.specs.Numbers.{Settings, node_spacing, insert_shares}
use Rattle.definition.specs.Counts.{of_points, of_slots, of_trace}
use Rattle.definition.specs.Plane.{Node, Vec, Edge}
use Rattle.definition.specs.Cells.{Tri, Quad, Cell, tri, quad, Live, Mesh, cell_of, with_live, noting, set_cell, push_cell, remove_cells}
use Rattle.definition.specs.Flips.{set_tris, flip, recover}
use Rattle.definition.specs.Insertion.{Inserted, nowhere, inserted, full, point_clear, slot_clear, holder, with_point, split_triangle, split, split_clear, insert_near, along, insert_by, insert_along}
use Rattle.definition.specs.Trace.{in_room}
use Rattle.definition.specs.Attempt.{recover_all, replaced}
use Rattle.laws.specs.Bools.{cond_ok}

-- ---- insertion
-- the mesh with the new point, if there is one, has the locked edges of m
abbrev pub LockedAs : Mesh → Inserted → Type 0
LockedAs m nowhere = Unit {0}
LockedAs m (inserted v m') = m'.locked ≡ m.locked
LockedAs m (full w) = Unit {0}
