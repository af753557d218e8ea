-- A mesh without its trace: all that a run reads of a mesh is as it was.
use Rattle.std.specs.Prelude.{◌≡◌, ◌&&◌, ◌||◌, ◌∷◌, ◌++◌}
use Rattle.laws.specs.Kit.{refl, ◌∙◌, ap, inl, inr, Bool, true, not, cond, Option, none, some, ℕ, zero, suc, List, [], foldl, length, Float}
use Rattle.definition.specs.Lists.{all, filter, find, below}
use Rattle.definition.specs.Floats.{◌⊕◌, ◌⊖◌, ◌⊗◌, ◌≺◌, ◌≼◌, abs, greater, 0·0, 1·0}
use Rattle.definition.specs.Numbers.{Settings, Quality, Turn, area_slack, insert_reach, side_margin, tiny_length}
use Rattle.definition.specs.Plane.{Node, Edge, Vec, norm, over, quad_area}
use Rattle.definition.specs.Cells.{Tri, Quad, Cell, tri, quad, Live, Mesh, node_at, owners, tri_owners, tri_owner, is_front, has_edge, is_locked, all_edges, cells_at, cell_of, in_slot_order, quad_edges, triangles, front, front_at}
use Rattle.definition.specs.Trace.{words_in, traced, in_room}
use Rattle.definition.specs.Flips.{bucket_key, overlaps, is_crossing, first_crossing}
use Rattle.definition.specs.Candidates.{in_reach, neighbours, on_top, live_region_from, seed_stack, live_region, shared_by_tris, walls, passes_by, segment_inside, side_candidate, toward, ideal_by, ideals, edge_candidate, candidates}
use Rattle.definition.specs.Insertion.{holds, point_clear, slot_clear, holder}
use Rattle.definition.specs.Region.{across, reach_all, flood, area_of, region_area, cell_inside, area_agrees, fills, may_go, spares_locked, if_filled, region_from, region}
use Rattle.definition.specs.Trials.{metrics_of, trial, trials}
use Rattle.definition.specs.Attempt.{stance, lies_left}
use Rattle.laws.specs.Bools.{which}
use Rattle.laws.specs.Lists.{known}

-- without room for a word
unfoldable pub quiet : Mesh → Mesh
quiet m = record { points = m.points; used = m.used; live = m.live; bucket = m.bucket; locked = m.locked; room = 0; history = m.history }
