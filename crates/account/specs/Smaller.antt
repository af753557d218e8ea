-- A run with a smaller limit on attempts goes as one with a larger limit until it stops:
-- its quads are the first ones of that run.
use Rattle.std.specs.Prelude.{◌≡◌, ◌⊎◌, ◌&&◌, ◌||◌, ◌+◌, ◌≤◌, ◌∷◌, ◌++◌}
use Rattle.laws.specs.Kit.{refl, sym, ◌∙◌, ap, subst, inl, inr, Bool, true, false, cond, Option, none, some, ℕ, zero, suc, arith, ltb, le-ltb, ltb-false, List, [], append-nil, append_assoc, length, Float}
use Rattle.definition.specs.Floats.{◌⊗◌, ◌≼◌}
use Rattle.definition.specs.Numbers.{Settings, Turn, first_turn, second_turn, insert_shares, node_spacing, tiny_length, max_triangles}
use Rattle.definition.specs.Counts.{one_attempt, Refusal, Placement, Recovery, OddRegion, Spent, nothing_spent, trying, of_trace}
use Rattle.definition.specs.Plane.{Node, Vec, Edge, norm, from_to}
use Rattle.definition.specs.Cells.{Tri, Quad, Cell, tri, quad, Live, Mesh, node_at, cell_of, tri_owner, is_front, live_tris, front}
use Rattle.definition.specs.Flips.{Recovered}
use Rattle.definition.specs.Candidates.{candidates}
use Rattle.definition.specs.Insertion.{Inserted, nowhere, inserted, full, holder, slot_clear, point_clear, split, split_clear, insert_near, along, insert_by, insert_along}
use Rattle.definition.specs.Components.{removing_leaves_odd_component}
use Rattle.definition.specs.Region.{region}
use Rattle.definition.specs.Loops.{front_loops}
use Rattle.definition.specs.Trials.{Trial, trials}
use Rattle.definition.specs.Attempt.{Tried, made, failed, orphaned, lacking, recover_all, replace, try_region, try_recovered, open_sides, try_pair, Attempt, placed, refused, ended, try_pairs, try_trials, Stance, Sides, found, missing, overfull, sides_by, sides_from, side_nodes, try_both, try_first, target_of, stance, try_along, lies_left, try_seed, try_owner, try_quad}
use Rattle.definition.specs.Front.{State, Progress, stuck, progressed, limited, stopped, counting, after, make_attempt, past_limit, attempt, try_edges, open_edges, try_loops, round, front_loop, Result, Outcome, ran, wanting, new_mesh, start, result, outcome, run_front}
use Rattle.laws.specs.Bools.{which, or_none, cond_ok}
use Rattle.account.specs.Walks.{Goes, Ends}
use Rattle.account.specs.Walks

-- ---- quads only grow
-- qs are the first of the list
abbrev pub First : List Quad → List Quad → Type 0
First qs all = (more : List Quad) × (all ≡ qs ++ more)

-- the quads qs are the first ones of the state's
abbrev pub Has : List Quad → State → Type 0
Has qs st = First qs st.quads

-- ---- the runs
-- the quads so far
unfoldable pub quads_of : Progress → List Quad
quads_of (stuck st) = st.quads
quads_of (progressed st) = st.quads
quads_of (limited st) = st.quads
quads_of (stopped w st) = st.quads

-- the quads of a run, finished or not
unfoldable pub outcome_quads : Outcome → List Quad
outcome_quads (ran r) = r.quads
outcome_quads (wanting w ps qs ws) = qs
