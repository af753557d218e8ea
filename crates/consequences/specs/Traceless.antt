-- A mesh without its trace: an insertion and an attempt go as on the mesh with it,
-- wherever those do not end for want of trace.
use Rattle.std.specs.Prelude.{◌≡◌, ◌||◌, ◌+◌, ◌∷◌}
use Rattle.laws.specs.Kit.{refl, ◌∙◌, ap, inl, inr, cond, Option, none, some, ℕ, ltb, leb, List, [], length, Float}
use Rattle.definition.specs.Floats.{◌⊗◌, ◌≼◌}
use Rattle.definition.specs.Numbers.{Settings, Turn, first_turn, second_turn, insert_shares, node_spacing, tiny_length}
use Rattle.definition.specs.Counts.{Placement, Spent, nothing_spent, of_points, of_slots, of_trace}
use Rattle.definition.specs.Plane.{Node, Vec, Edge, norm, from_to}
use Rattle.definition.specs.Cells.{Tri, Cell, tri, quad, Live, Mesh, node_at, cell_of, tri_owner, with_live, noting, set_cell, push_cell}
use Rattle.definition.specs.Trace.{in_room}
use Rattle.definition.specs.Candidates.{candidates}
use Rattle.definition.specs.Insertion.{Inserted, nowhere, inserted, full, point_clear, slot_clear, holder, with_point, split_triangle, split, split_clear, insert_near, along, insert_by, insert_along}
use Rattle.definition.specs.Trials.{trials}
use Rattle.definition.specs.Attempt.{refused, Stance, Sides, found, missing, overfull, sides_by, sides_from, side_nodes, try_both, try_first, try_trials, target_of, stance, try_along, lies_left, try_seed, try_owner, try_quad}
use Rattle.laws.specs.Bools.{which}
use Rattle.consequences.specs.Quiet.{quiet}
use Rattle.consequences.specs.Untraced.{NotTrace, quiet_s, Heard, quiet_a}

-- ---- an insertion
abbrev pub HeardI : Inserted → Type 0
HeardI nowhere = Unit {0}
HeardI (inserted v m) = Unit {0}
HeardI (full w) = NotTrace w

unfoldable pub quiet_i : Inserted → Inserted
quiet_i nowhere = nowhere
quiet_i (inserted v m) = inserted v (quiet m)
quiet_i (full w) = full w
