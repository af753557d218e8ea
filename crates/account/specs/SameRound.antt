-- Flips and splits place no quad: within an attempt the round stays.
use Rattle.std.specs.Prelude.{◌≡◌, ◌+◌, ◌∷◌}
use Rattle.laws.specs.Kit.{refl, sym, ◌∙◌, ap, cond, Option, none, some, ℕ, suc, ltb, leb, List, [], length, Float}
use Rattle.definition.specs.Floats.{◌⊗◌}
use Rattle.definition.specs.Numbers.{Settings, Turn, node_spacing, insert_shares}
use Rattle.definition.specs.Counts.{of_points, of_slots, of_trace, Spent}
use Rattle.definition.specs.Plane.{Node, Vec, Edge}
use Rattle.definition.specs.Cells.{Tri, Cell, tri, quad, Live, Mesh, node_at, cell_of, all_edges, this_round}
use Rattle.definition.specs.Trace.{in_room}
use Rattle.definition.specs.Flips.{flip, recover}
use Rattle.definition.specs.Candidates.{candidates}
use Rattle.definition.specs.Insertion.{Inserted, nowhere, inserted, full, point_clear, slot_clear, holder, split_triangle, split, split_clear, insert_near, along, insert_by, insert_along}
use Rattle.definition.specs.Attempt.{recover_all, Stance, Sides, found, missing, overfull, sides_by, sides_from, side_nodes}
use Rattle.laws.specs.Bools.{cond_ok}
use Rattle.laws.specs.Lists.{In}
use Rattle.account.specs.Valid.{Valid}
use Rattle.account.specs.Placed.{live_quad, quad_cells}

-- the mesh is a valid one of the same round
abbrev pub Keeps : Mesh → ℕ → Mesh → Type 0
Keeps m n a = Valid a × (this_round a ≡ this_round m)

-- the mesh with the new point, if there is one, has the round of m
abbrev pub RoundAs : Mesh → Inserted → Type 0
RoundAs m nowhere = Unit {0}
RoundAs m (inserted v m') = this_round m' ≡ this_round m
RoundAs m (full w) = Unit {0}
