-- Preview: it leaves every slice but the work; its edge has no order;
-- it shows how the attempt on that edge ends when a run begins with it; and it inserts at most two points.
use Rattle.std.specs.Prelude.{◌≡◌, ◌⊎◌, ◌||◌, ◌+◌, ◌*◌, ◌<◌, ◌≤◌, ◌∷◌}
use Rattle.laws.specs.Kit.{refl, ◌∙◌, ap, inl, inr, true, false, Option, none, some, ℕ, suc, arith, ne_eqb, le-ltb, List, [], length}
use Rattle.definition.specs.Lists.{find}
use Rattle.definition.specs.Numbers.{Settings, Turn, first_turn, second_turn, max_attempts, max_triangles, tiny_length}
use Rattle.definition.specs.Counts.{◌⊞◌, tally, no_counts, one_attempt, Refusal, Recovery, Spent, nothing_spent, inserting, trying}
use Rattle.definition.specs.Plane.{Edge, norm, from_to}
use Rattle.definition.specs.Cells.{Cell, tri, quad, Live, Mesh, key, node_at, tri_owner, is_front, live_tris}
use Rattle.definition.specs.Floats.{◌≼◌}
use Rattle.definition.specs.Trials.{Trial, trials}
use Rattle.definition.specs.Insertion.{Inserted, nowhere, inserted, full}
use Rattle.definition.specs.Attempt.{Tried, made, failed, orphaned, lacking, try_pair, Attempt, placed, refused, ended, try_pairs, try_trials, Stance, Sides, found, missing, overfull, sides_by, sides_from, side_nodes, try_both, try_first, stance, try_along, lies_left, try_seed, try_owner, try_quad}
use Rattle.definition.specs.Front.{State, counting, after, make_attempt, past_limit, attempt, new_mesh, start}
use Rattle.definition.specs.Call.{Asked, Lent, given_points, given_tris, given_locks, conditions, settings_within, settings}
use Rattle.definition.specs.Preview.{shown, show_edge, cleared, preview}
use Rattle.laws.specs.Bools.{cond_ok}
use Rattle.laws.specs.Lists.{known}
use Rattle.laws.specs.Cells.{key_swap}

-- ---- the run
-- where a run begins
abbrev pub begun : Asked → Lent → State
begun a l = start (settings a) (given_locks a l) (given_tris a l) (given_points a l)

-- ---- at most two insertions
-- no more than k
abbrev pub Inserts : ℕ → Attempt → Type 0
Inserts k (placed n m q) = n.insertions ≤ k
Inserts k (refused why n m) = n.insertions ≤ k
Inserts k (ended w n m) = n.insertions ≤ k

-- no more than k nodes are inserted at one end
abbrev pub Adds : ℕ → Sides → Type 0
Adds k (found vs n m) = n.insertions ≤ k
Adds k (missing n m) = n.insertions ≤ k
Adds k (overfull w n m) = n.insertions ≤ k
