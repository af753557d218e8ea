-- Births: the quad that an attempt places grew from the edge of the attempt.
use Rattle.std.specs.Prelude.{◌≡◌, ◌&&◌, ◌||◌, ◌+◌, ◌<◌, ◌∷◌}
use Rattle.laws.specs.Kit.{refl, sym, ◌∙◌, ap, subst, inl, inr, true, false, Option, none, some, ℕ, min, max, arith, ltb, List, []}
use Rattle.definition.specs.Lists.{flat_map, contains}
use Rattle.definition.specs.Floats.{◌≼◌}
use Rattle.definition.specs.Numbers.{Settings, Quality, first_turn, second_turn, tiny_length}
use Rattle.definition.specs.Counts.{Refusal, Recovery, Spent, nothing_spent, trying}
use Rattle.definition.specs.Plane.{Edge, norm, from_to}
use Rattle.definition.specs.Metrics.{passes}
use Rattle.definition.specs.Cells.{Quad, Cell, tri, quad, Live, Mesh, key, new_quad, born, node_at, tri_owner}
use Rattle.definition.specs.Components.{removing_leaves_odd_component}
use Rattle.definition.specs.Region.{region}
use Rattle.definition.specs.Trials.{Trial, rated, metrics_of, trial, trial_before}
use Rattle.definition.specs.Trace.{in_room}
use Rattle.definition.specs.Attempt.{Tried, made, failed, orphaned, lacking, recover_all, replace, try_region, try_recovered, open_sides, try_pair, Attempt, placed, refused, ended, try_pairs, try_trials, Stance, Sides, found, missing, overfull, side_nodes, stance, lies_left, try_quad}
use Rattle.laws.specs.Bools.{which, cond_ok}
use Rattle.laws.specs.Lists.{In, sort_in, in_flat_map}
use Rattle.account.specs.Pairs.{acceptable, pairs_both, pairs_first, pairs_along, pairs_seed, pairs_owner, pairs_of, turns}

-- a quad that the attempt placed grew from the edge
abbrev pub Grown : Edge → Attempt → Type 0
Grown e (placed n m q) = q.edge ≡ e
Grown e (refused why n m) = Unit {0}
Grown e (ended w n m) = Unit {0}

-- a quad that the pair gave grew from the edge
abbrev pub Gave : Edge → Tried → Type 0
Gave e (made j q m) = q.edge ≡ e
Gave e (failed j why m) = Unit {0}
Gave e orphaned = Unit {0}
Gave e (lacking w j m) = Unit {0}

-- the quads of some trials grew from the edge
abbrev pub From : Edge → List Trial → Type 0
From e ts = (t : Trial) → In t ts → t.nodes.edge ≡ e
