-- Preview: with room for two points and five slots beyond the given ones no preview that its inputs do not refuse
-- is refused: 8 and 9 do not come up, nor 11, since no trace is lent.
use Rattle.std.specs.Prelude.{◌≡◌, ◌≢◌, ◌&&◌, ◌||◌, ◌+◌, ◌*◌, ◌≤◌, ◌∷◌}
use Rattle.laws.specs.Kit.{refl, ◌∙◌, ap, inl, inr, true, false, not, Option, none, some, ℕ, zero, suc, arith, eqb, le-ltb, lt-leb, List, [], length, Float}
use Rattle.definition.specs.Lists.{find}
use Rattle.definition.specs.Floats.{◌⊗◌, ◌≼◌}
use Rattle.definition.specs.Numbers.{Settings, Turn, first_turn, second_turn, insert_shares, node_spacing, tiny_length}
use Rattle.definition.specs.Counts.{Refusal, Recovery, Spent, nothing_spent, trying}
use Rattle.definition.specs.Plane.{Node, Vec, Edge, norm, from_to}
use Rattle.definition.specs.Cells.{Tri, Quad, Cell, tri, quad, Live, Mesh, key, born, node_at, cell_of, tri_owner, is_front, this_round, has_edge, with_live, noting, set_cell, push_cell, remove_cells}
use Rattle.definition.specs.Trace.{words_in, traced, in_room}
use Rattle.definition.specs.Flips.{set_tris, flip, first_crossing, flip_first, recover_in, recover}
use Rattle.definition.specs.Insertion.{Inserted, nowhere, inserted, full, point_clear, slot_clear, holder, with_point, split_triangle, split, split_clear, insert_near, along, insert_by, insert_along}
use Rattle.definition.specs.Components.{removing_leaves_odd_component}
use Rattle.definition.specs.Region.{region}
use Rattle.definition.specs.Trials.{Trial, trials}
use Rattle.definition.specs.Attempt.{Tried, made, failed, orphaned, lacking, flipping, recover_all, replaced, replace, try_region, try_recovered, open_sides, try_pair, Attempt, placed, refused, ended, try_pairs, try_trials, Stance, Sides, found, missing, overfull, sides_by, sides_from, side_nodes, try_both, try_first, stance, try_along, lies_left, try_seed, try_owner, try_quad}
use Rattle.definition.specs.Front.{new_mesh}
use Rattle.definition.specs.Call.{Asked, Lent, given_points, given_tris, given_locks, conditions, settings_within, settings}
use Rattle.definition.specs.Preview.{Shown, off_front, shown_quad, shown_kind, shown_refusal, shown, show_edge, preview}
use Rattle.laws.specs.Bools.{which, cond_ok}
use Rattle.laws.specs.Lists.{known}
use Rattle.account.proofs.Flips.{flip_made, flip_points, flip_used}
use Rattle.account.proofs.Steps.{split_count, recover_all_ok}
use Rattle.account.proofs.Rooms.{split_used}
use Rattle.account.proofs.Finished.{not_of_run, points_number, tris_number}

-- ---- the preview
-- something is shown
abbrev pub Answers : Shown → Type 0
Answers (off_front c) = Unit {0}
Answers (shown_quad q c) = Unit {0}
Answers (shown_kind why c) = Unit {0}
Answers (shown_refusal k) = ⊥
