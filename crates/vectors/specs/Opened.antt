-- To unfold `opened` is to unfold the whole definition: what its line names, and what theirs do. Made by tools/computed/opened.py.
use Rattle.std.specs.Float.Ieee.{add, sub, mul, div, neg, lt, le, eq, of_bits, to_bits, round as ieee_round, size as ieee_size}
use Rattle.definition.specs.Lists.{filter, any, all, find, first, empty, insert, sort, flat_map, concat, table, numbers, below, contains, rows}
use Rattle.definition.specs.Floats.{◌⊕◌, ◌⊖◌, ◌⊗◌, ◌⊘◌, ◌≺◌, ◌≼◌, abs, finite, on_grid, lesser, greater, f64, 0·0, 1e-12, 1e-9, 1/64, 0·1, 0·2, 0·25, 0·3, 0·4, 0·5, 0·6, 0·7, 0·8, 0·866, 0·9, 0·90630778703665, 0·99, 1·0, 1·5, 2·0, 2·2, 2·5, 3·0, 4·0, 8·0}
use Rattle.definition.specs.Numbers.{base, side_along, side_across, side_margin, edge_low, edge_high, edge_dot, ideal_sum, first_turn, second_turn, mismatch_low, mismatch_high, insert_shares, node_spacing, insert_reach, tiny_cross, tiny_length, area_slack, tiny_size, max_attempts, max_triangles}
use Rattle.definition.specs.Counts.{tally, ◌⊞◌, no_counts, emptied, one_attempt, nothing_spent, inserting, trying, spending, at_limit, refused_by, number}
use Rattle.definition.specs.Root.{isqrt, scale, sqrt, floor}
use Rattle.definition.specs.Plane.{flat, point, cross, side, parts, segments_cross, positive, negative, point_strictly_inside, inside_quad, shoelace, twice_area, quad_area, from_to, dot, norm, over, dist, edge_length, size_mismatch}
use Rattle.definition.specs.Metrics.{corner, c0, c1, c2, c3, d0, d1, weights, weighted, scaled, jacobian_at, min_scaled_jacobian, corner_of, corners, not_convex, angle_of, clamp, cosine, largest_cosine, quad_metrics, passes, score}
use Rattle.definition.specs.Cells.{new_tri, new_live, key, new_quad, born, tri_nodes, quad_nodes, nodes, tri_edges, quad_edges, edges, is_tri, same_edge, edge_before, touches, has_edge_in, node_at, live_tri, tri_has, has_side, owns, in_slot, cell_of, owners, tri_owners, tri_owner, front_owners, is_front, has_edge, is_locked, live_tris, this_round, all_edges, has_node, cells_at, tri_of, tris_of, in_slot_order, triangles, front_from, front_at, front, with_live, noting, without, among, without_all, remove_cell, remove_cells, set_cell, push_cell}
use Rattle.definition.specs.Trace.{word_limit, two_words, double_of, entry, trace, words_in, traced, in_room, quads_placed}
use Rattle.definition.specs.Flips.{off_edge, third, apart, convex_pair, is_step, runs, first_turned, second_turned, set_tris, flipped, flip_tris, flip_cells, flip_owners, flip, bucket_key, ranges_meet, overlaps, is_crossing, first_crossing, flip_first, recover_in, recover}
use Rattle.definition.specs.Candidates.{in_reach, neighbours, on_top, live_region_from, seed_stack, live_region, shared_by_tris, walls, passes_by, segment_inside, ahead, side_candidate, toward, plus, halfway, ideal_by, turned, or_turned, ideals, edge_candidate, candidates}
use Rattle.definition.specs.Insertion.{holds, point_clear, slot_clear, holder, with_point, split_triangle, split, split_clear, insert_near, along, insert_by, insert_along}
use Rattle.definition.specs.Components.{share_edge, meets, join, classes, component_sizes, odd_one, removing_leaves_odd_component}
use Rattle.definition.specs.Region.{reach, reach_all, across, flood, area_of, region_area, cell_inside, area_agrees, fills, may_go, spares_locked, if_filled, region_from, region}
use Rattle.definition.specs.Loops.{far_end, without_edge, walk, loops_of, ranked_before, in_order, loop_perimeter, ranked_loop, front_loops, ranked_edge, by_length}
use Rattle.definition.specs.Trials.{rated, metrics_of, trial, numbers_before, trial_before, trials}
use Rattle.definition.specs.Attempt.{flipping, recover_all, replaced, replace, try_region, try_recovered, open_sides, try_pair, try_pairs, try_trials, sides_by, sides_from, side_nodes, try_both, try_first, target_of, inward_normal, stance, try_along, lies_left, try_seed, try_owner, try_quad}
use Rattle.definition.specs.Front.{counting, clear_of, freed, after, make_attempt, past_limit, attempt, try_edges, is_blocked, is_open, open_edges, try_loops, round, front_loop, in_slots, new_mesh, start, result, outcome, run_front}
use Rattle.definition.specs.Call.{counts_of, lengths_of, point_at, tri_at, joint_at, quad_at, quad_words, first_points, first_tris, first_quads, coordinates, onto, all_of, given_points, given_tris, given_joints, most_given, most_capacity, most_slots, least_size, most_size, most_coordinate, most_pairs, most_joints, slot_words, point_words, slot_floats, over_limit, bad_size, bad_stop, ranges, good_quality, bad_quality, too_short, unknown_node, twice, repeated_node, outside, far_point, grid_node, bad_grid, bad_joint, bad_joints, conditions, settings_within, settings, given_locks, written, lengths, untouched, after_run, call_within, call}
use Rattle.definition.specs.Preview.{cost, shown, show_edge, cleared, preview}
use Rattle.definition.specs.Job.{most_meshes, most_allowance, share, entitled, bad_job, job_limit, rounds_of, attempts_made, charge, handed_on, after_mesh, run_mesh, job}
use Rattle.definition.specs.Replay.{reading, word, is_kind, entered_quad, read_entry, unsound, redo_inserted, redo_split, redo_flipped, cells_in, all_different, triangles_in, redo, replay_in, replay_words, as_asked, replay_conditions, after_replay, replay}
use Rattle.definition.specs.Text.{bytes, take_on, ◌>>=◌, ◌>>◌, give, ensure, exactly, lit, is_digit, one_more, run, decimal, well_formed, dec, is_hex, hex_digit, hex_value, hex, one_digit, times, most_listed, most_bytes, most_node, three, node, input, lent_points, lent_slots, asked, lent_for, decimal_in, show, hex_in, show_bits, line_of, lines_of, listed, points_between, show_lists, show_refusal, show_answer, show_returned, answer_to, reply}

-- all but the walks over edges, loops and rounds
unfoldable pub opened_attempts : Unit {0}
unfolding add sub mul div neg lt le eq of_bits to_bits ieee_round ieee_size filter any all find first empty insert sort flat_map concat table numbers below contains rows ◌⊕◌ ◌⊖◌ ◌⊗◌ ◌⊘◌ ◌≺◌ ◌≼◌ abs finite on_grid lesser greater f64 0·0 1e-12 1e-9 1/64 0·1 0·2 0·25 0·3 0·4 0·5 0·6 0·7 0·8 0·866 0·9 0·90630778703665 0·99 1·0 1·5 2·0 2·2 2·5 3·0 4·0 8·0 base side_along side_across side_margin edge_low edge_high edge_dot ideal_sum first_turn second_turn mismatch_low mismatch_high insert_shares node_spacing insert_reach tiny_cross tiny_length area_slack tiny_size max_attempts max_triangles tally ◌⊞◌ no_counts emptied one_attempt nothing_spent inserting trying spending at_limit refused_by number isqrt scale sqrt floor flat point cross side parts segments_cross positive negative point_strictly_inside inside_quad shoelace twice_area quad_area from_to dot norm over dist edge_length size_mismatch corner c0 c1 c2 c3 d0 d1 weights weighted scaled jacobian_at min_scaled_jacobian corner_of corners not_convex angle_of clamp cosine largest_cosine quad_metrics passes score new_tri new_live key new_quad born tri_nodes quad_nodes nodes tri_edges quad_edges edges is_tri same_edge edge_before touches has_edge_in node_at live_tri tri_has has_side owns in_slot cell_of owners tri_owners tri_owner front_owners is_front has_edge is_locked live_tris this_round all_edges has_node cells_at tri_of tris_of in_slot_order triangles front_from front_at front with_live noting without among without_all remove_cell remove_cells set_cell push_cell word_limit two_words double_of entry trace words_in traced in_room quads_placed off_edge third apart convex_pair is_step runs first_turned second_turned set_tris flipped flip_tris flip_cells flip_owners flip bucket_key ranges_meet overlaps is_crossing first_crossing flip_first recover_in recover in_reach neighbours on_top live_region_from seed_stack live_region shared_by_tris walls passes_by segment_inside ahead side_candidate toward plus halfway ideal_by turned or_turned ideals edge_candidate candidates holds point_clear slot_clear holder with_point split_triangle split split_clear insert_near along insert_by insert_along share_edge meets join classes component_sizes odd_one removing_leaves_odd_component reach reach_all across flood area_of region_area cell_inside area_agrees fills may_go spares_locked if_filled region_from region far_end without_edge walk loops_of ranked_before in_order loop_perimeter ranked_loop front_loops ranked_edge by_length rated metrics_of trial numbers_before trial_before trials flipping recover_all replaced replace try_region try_recovered open_sides try_pair try_pairs try_trials sides_by sides_from side_nodes try_both try_first target_of inward_normal stance try_along lies_left try_seed try_owner try_quad counting clear_of freed after make_attempt past_limit attempt is_blocked is_open open_edges in_slots new_mesh start result outcome run_front counts_of lengths_of point_at tri_at joint_at quad_at quad_words first_points first_tris first_quads coordinates onto all_of given_points given_tris given_joints most_given most_capacity most_slots least_size most_size most_coordinate most_pairs most_joints slot_words point_words slot_floats over_limit bad_size bad_stop ranges good_quality bad_quality too_short unknown_node twice repeated_node outside far_point grid_node bad_grid bad_joint bad_joints conditions settings_within settings given_locks written lengths untouched after_run call_within call cost shown show_edge cleared preview most_meshes most_allowance share entitled bad_job job_limit rounds_of attempts_made charge handed_on after_mesh run_mesh job reading word is_kind entered_quad read_entry unsound redo_inserted redo_split redo_flipped cells_in all_different triangles_in redo replay_in replay_words as_asked replay_conditions after_replay replay bytes take_on ◌>>=◌ ◌>>◌ give ensure exactly lit is_digit one_more run decimal well_formed dec is_hex hex_digit hex_value hex one_digit times most_listed most_bytes most_node three node input lent_points lent_slots asked lent_for decimal_in show hex_in show_bits line_of lines_of listed points_between show_lists show_refusal show_answer show_returned answer_to reply
opened_attempts = tt

-- all
unfoldable pub opened : Unit {0}
unfolding opened_attempts front_loop try_edges try_loops round
opened = tt
