-- An edge that is on the front when an attempt on it begins keeps an odd number of triangles
-- through the attempt's flips and splits, so a triangle always owns it.
-- No pair finds it orphaned, and an attempt that had acceptable pairs is not refused under placement.
use Rattle.std.specs.Prelude.{◌≡◌, ◌≢◌, ◌&&◌, ◌+◌, ◌<◌, ◌∷◌, ◌++◌}
use Rattle.laws.specs.Kit.{refl, sym, subst, inl, inr, true, Option, none, some, ℕ, arith, ltb, List, [], length}
use Rattle.definition.specs.Lists.{filter, first}
use Rattle.definition.specs.Numbers.{Settings}
use Rattle.definition.specs.Counts.{Refusal, Placement, Shape, Recovery, Region, OddRegion, Spent, trying}
use Rattle.definition.specs.Plane.{Node, Edge}
use Rattle.definition.specs.Cells.{Tri, Quad, tri, Live, Mesh, live_tri, is_tri, has_side, owns, owners, tri_owners, tri_owner, all_edges, tris_of, is_front}
use Rattle.definition.specs.Flips.{third, flip}
use Rattle.definition.specs.Insertion.{split_triangle}
use Rattle.definition.specs.Components.{removing_leaves_odd_component}
use Rattle.definition.specs.Region.{region}
use Rattle.definition.specs.Trials.{Trial}
use Rattle.definition.specs.Trace.{in_room}
use Rattle.definition.specs.Attempt.{Tried, made, failed, orphaned, lacking, recover_all, replace, try_region, try_recovered, open_sides, try_pair, Attempt, placed, refused, ended, try_pairs, try_trials, try_quad}
use Rattle.laws.specs.Bools.{cond_ok}
use Rattle.laws.specs.Lists.{In, filter_in}
use Rattle.account.specs.Triangles.{Has}
use Rattle.account.specs.Valid.{Valid}
use Rattle.account.specs.Steps.{FlipsKeep, SplitsKeep, AttemptOk}
use Rattle.account.specs.Roles.{side, Four}
use Rattle.account.specs.Refused.{Refused}
use Rattle.account.specs.Pairs.{pairs_of, turns, PairsRule}

-- ---- an attempt on the edge
abbrev pub Other : Refusal → Type 0
Other Placement = ⊥
Other Shape = Unit {0}
Other Recovery = Unit {0}
Other Region = Unit {0}
Other OddRegion = Unit {0}

-- a refusal is not the one under placement
abbrev pub ByPair : Attempt → Type 0
ByPair (placed n m q) = Unit {0}
ByPair (refused why n m) = why ≢ Placement
ByPair (ended w n m) = Unit {0}
