-- What an attempt does to the mesh: flips and splits, then at most one quad. Whatever those keep, an attempt keeps.
use Rattle.std.specs.Prelude.{◌≡◌, ◌≢◌, ◌&&◌, ◌||◌, ◌+◌, ◌<◌, ◌≤◌, ◌∷◌, ◌++◌}
use Rattle.laws.specs.Kit.{refl, sym, ◌∙◌, ap, subst, inl, inr, true, false, Option, none, some, ℕ, zero, suc, arith, ltb, leb, ltb-false, leb-false, List, [], length, length-append, Float}
use Rattle.definition.specs.Lists.{below}
use Rattle.definition.specs.Floats.{◌⊗◌, ◌≼◌}
use Rattle.definition.specs.Numbers.{Quality, Settings, Turn, first_turn, second_turn, insert_shares, node_spacing, tiny_length}
use Rattle.definition.specs.Counts.{Refusal, Recovery, Spent, nothing_spent, inserting, trying}
use Rattle.definition.specs.Plane.{Node, Vec, Edge, norm, from_to, edge_length, size_mismatch}
use Rattle.definition.specs.Cells.{Tri, Quad, Cell, tri, quad, Live, Mesh, quad_nodes, quad_edges, born, node_at, cell_of, tri_owner, this_round, has_edge, all_edges, with_live, noting, set_cell, push_cell}
use Rattle.definition.specs.Trace.{in_room}
use Rattle.definition.specs.Flips.{flip, flip_first, first_crossing, recover_in, recover}
use Rattle.definition.specs.Candidates.{candidates}
use Rattle.definition.specs.Insertion.{Inserted, nowhere, inserted, full, holds, holder, point_clear, slot_clear, with_point, split_triangle, split, split_clear, insert_near, along, insert_by, insert_along}
use Rattle.definition.specs.Components.{removing_leaves_odd_component}
use Rattle.definition.specs.Region.{cell_inside, area_agrees, fills, may_go, spares_locked, if_filled, region_from, region}
use Rattle.definition.specs.Trials.{Trial, trials}
use Rattle.definition.specs.Attempt.{Tried, made, failed, orphaned, lacking, flipping, recover_all, replaced, replace, try_region, try_recovered, open_sides, try_pair, Attempt, placed, refused, ended, try_pairs, try_trials, Stance, Sides, found, missing, overfull, sides_by, sides_from, side_nodes, try_both, try_first, target_of, inward_normal, stance, try_along, lies_left, try_seed, try_owner, try_quad}
use Rattle.definition.specs.Account.{measures}
use Rattle.laws.specs.Bools.{which, or_none, cond_ok}
use Rattle.laws.specs.Lists.{In, in_filter, known, in_below}
use Rattle.account.specs.Flips.{TriAt}
use Rattle.account.specs.Valid.{Valid}
use Rattle.account.specs.Found.{Owner}
use Rattle.account.specs.Rated.{Rated, Below}

-- ---- what an attempt that began at the mesh start does
-- p is a share of the target along the normal of an edge that is not short, from a node of the mesh
pub record OnNormal (s : Settings) (start m : Mesh) (p : Node) : Type 0 where
  pub a : ℕ
  pub b : ℕ
  pub end : ℕ
  pub share : Float
  pub among : In share insert_shares
  pub long : (norm (from_to (node_at start a) (node_at start b)) ≼ tiny_length) ≡ false
  pub place : p ≡ along (node_at m end) (inward_normal (from_to (node_at start a) (node_at start b)) (norm (from_to (node_at start a) (node_at start b))))
      (target_of s (edge_length start.points (a, b))) share
  -- a point is inserted only where the edge's length is off the target
  pub off : size_mismatch (edge_length start.points (a, b)) (target_of s (edge_length start.points (a, b))) ≡ true

-- the live triangle t of x may be split at p
pub record Splitting (s : Settings) (start m : Mesh) (x : Live) (t : Tri) (p : Node) : Type 0 where
  pub at : In x m.live
  pub cell : x.cell ≡ tri t
  pub held : holds m p (tri t) ≡ true
  pub point_left : length m.points < s.capacity
  pub slots_left : m.used + 2 ≤ s.slots
  pub normal : OnNormal s start m p

-- P n m: the mesh m, reached with n insertions, is as it should be.
-- The mesh m' is m with a region given up for the quad q.
pub record Made (s : Settings) (P : ℕ → Mesh → Type 0) (n : ℕ) (m' : Mesh) (q : Quad) : Type 0 where
  pub mesh : Mesh
  pub before : P n mesh
  pub seed : ℕ
  pub seed_tri : TriAt mesh seed
  pub cells : List Live
  pub reached : region mesh seed q ≡ some cells
  pub none_odd : s.even ≡ true → removing_leaves_odd_component mesh cells ≡ false
  pub slot_left : mesh.used + 1 ≤ s.slots
  pub trial : Rated s.quality mesh.points q
  pub in_round : q.round ≡ this_round mesh
  pub in_place_of : q.replaced ≡ length cells
  pub after : m' ≡ replaced mesh q cells

-- what an insertion leaves
abbrev pub InsertedOk : (ℕ → Mesh → Type 0) → ℕ → Inserted → Type 0
InsertedOk P n nowhere = Unit {0}
InsertedOk P n (inserted v m) = P (suc n) m × (v < length m.points)
InsertedOk P n (full w) = Unit {0}

-- what the search of side nodes leaves
abbrev pub SidesOk : (ℕ → Mesh → Type 0) → Sides → Type 0
SidesOk P (found vs n m) = P n.insertions m × Below vs m
SidesOk P (missing n m) = P n.insertions m
SidesOk P (overfull w n m) = P n.insertions m

-- ps are the points by which the pair's quad was rated
abbrev pub TriedOk : Settings → (ℕ → Mesh → Type 0) → ℕ → List Node → Tried → Type 0
TriedOk s P n ps (made j q m) = Made s P n m q
TriedOk s P n ps (failed j why m) = P n m × (m.points ≡ ps)
TriedOk s P n ps orphaned = Unit {0}
TriedOk s P n ps (lacking w j m) = P n m

-- what an attempt leaves
abbrev pub AttemptOk : Settings → (ℕ → Mesh → Type 0) → Attempt → Type 0
AttemptOk s P (placed n m q) = Made s P n.insertions m q
AttemptOk s P (refused why n m) = P n.insertions m
AttemptOk s P (ended w n m) = P n.insertions m

-- every flip keeps P
abbrev pub FlipsKeep : (ℕ → Mesh → Type 0) → Type 0
FlipsKeep P = (n : ℕ) (m m' : Mesh) (e : Edge) → P n m → In e (all_edges m) → flip m e ≡ some m' → P n m'

-- every split that an attempt makes keeps P, and counts one insertion
abbrev pub SplitsKeep : Settings → Mesh → (ℕ → Mesh → Type 0) → Type 0
SplitsKeep s start P = (n : ℕ) (m : Mesh) (x : Live) (t : Tri) (p : Node) → P n m → Splitting s start m x t p → P (suc n) (split_triangle m x.slot t p)
