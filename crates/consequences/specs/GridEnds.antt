-- The grid profile, whatever ends the run: no point is added, and 8 does not come up.
-- An insertion is tried only where an edge's length is off its target
-- (`stance_on_target`), and nothing else wants a point.
use Rattle.std.specs.Prelude.{◌≡◌, ◌≢◌, ◌&&◌, ◌||◌, ◌+◌, ◌∷◌}
use Rattle.laws.specs.Kit.{refl, sym, ◌∙◌, ap, subst, inl, inr, Bool, true, false, not, cond, Option, none, some, ℕ, arith, ltb, List, [], length}
use Rattle.definition.specs.Lists.{find, flat_map}
use Rattle.definition.specs.Floats.{◌≼◌}
use Rattle.definition.specs.Numbers.{Settings, first_turn, tiny_length}
use Rattle.definition.specs.Counts.{Refusal, Placement, Recovery, Spent, nothing_spent, trying, one_attempt, Want, of_points, of_slots, of_trace, number}
use Rattle.definition.specs.Plane.{Node, Edge, norm, from_to}
use Rattle.definition.specs.Cells.{Tri, Quad, Cell, tri, quad, Live, Mesh, node_at, tri_owner, is_front}
use Rattle.definition.specs.Trace.{in_room}
use Rattle.definition.specs.Candidates.{candidates}
use Rattle.definition.specs.Components.{removing_leaves_odd_component}
use Rattle.definition.specs.Region.{region}
use Rattle.definition.specs.Trials.{Trial, trials}
use Rattle.definition.specs.Attempt.{Tried, made, failed, orphaned, lacking, recover_all, replace, try_region, try_recovered, open_sides, try_pair, Attempt, placed, refused, ended, try_pairs, try_trials, Stance, Sides, found, missing, overfull, sides_from, side_nodes, try_both, try_first, stance, try_along, lies_left, try_seed, try_owner, try_quad}
use Rattle.definition.specs.Front.{State, Progress, stuck, progressed, limited, stopped, counting, after, make_attempt, past_limit, attempt, Outcome, ran, wanting, new_mesh, start, outcome, run_front}
use Rattle.definition.specs.Call.{Asked, Lent, refusal, given_points, given_tris, given_locks, first_points, coordinates, onto, most_slots, settings_within, conditions, outside, written, untouched, after_run, call_within}
use Rattle.definition.specs.Account.{All}
use Rattle.laws.specs.Bools.{cond_ok}
use Rattle.laws.specs.Lists.{In, all_from, known}
use Rattle.laws.specs.Slices.{points_onto}
use Rattle.account.specs.Start.{Proper}
use Rattle.account.proofs.Start.{start_valid}
use Rattle.account.specs.Run.{ProgressOk}
use Rattle.account.proofs.Run.{attempt_ok}
use Rattle.consequences.specs.ValidWalks.{Leads, Closes}
use Rattle.account.specs.Gridded.{Unsized}
use Rattle.account.proofs.Gridded.{stance_on_target, nothing_tried, points_rule, nothing_inserted}
use Rattle.account.proofs.Finished.{not_of_run, on_grid_so, points_long, given_fit, slots_limit, points_number, given_proper, given_within}

-- ---- an attempt
-- the memory that is wanting is not that of points
abbrev pub NotPoints : Want → Type 0
NotPoints w = w ≢ of_points
