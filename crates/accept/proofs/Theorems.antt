-- What an acceptance says.
use Rattle.std.specs.Prelude.{◌≡◌, ◌+◌}
use Rattle.laws.specs.Kit.{sym, ◌∙◌, true, false, none, ℕ, List, length, binary64, fits}
use Rattle.definition.specs.Floats.{◌≺◌, 1·0}
use Rattle.definition.specs.Lists.{flat_map}
use Rattle.definition.specs.Numbers.{Quality, base}
use Rattle.definition.specs.Counts.{Counts}
use Rattle.definition.specs.Plane.{Node, Edge}
use Rattle.definition.specs.Cells.{Tri, Quad, tri_edges}
use Rattle.definition.specs.Components.{component_sizes}
use Rattle.definition.specs.Exact.{TurnsLeft, CosineUpTo, WideEnough}
use Rattle.definition.specs.Call.{Asked, Lent, Lengths, finished, first_quads, call_within}
use Rattle.definition.specs.Account.{All, ◌∈◌, Even, Components, Account, EdgeOf, JointsSurvive, quad_corners, quads_area, tris_area}
use Rattle.exact.proofs.Theorems.{wide}
use Rattle.laws.specs.Bools.{never}
use Rattle.laws.specs.Lists.{all_from}
use Rattle.account.specs.Classes.{AllDistinct}
use Rattle.account.proofs.Sizes.{components_right}
use Rattle.accept.specs.Accept.{Judged, tri_sides, quad_sides, given_sides, cell_sides, times, Kept, Convex, Wide, BluntAt, Blunt, Counterclockwise, Level, Cover, Stands, is_convex, is_wide, is_blunt, counterclockwise, stands, Verdict, verdict}
use Rattle.accept.specs.Named.{Named}
use Rattle.accept.proofs.Balance.{all_one, times_walked}
use Rattle.accept.proofs.Firsts.{NamesFirst, names_first}
use Rattle.accept.specs.Moved.{Doubles, NamesMoved}
use Rattle.accept.proofs.Moved.{names_moved}
use Rattle.accept.specs.Least.{NamesLeast}
use Rattle.accept.proofs.Least.{names_least}
use Rattle.accept.proofs.Tests.{convex_decides, wide_decides, blunt_decides, turn_decides, stands_decides}
use Rattle.accept.specs.Places.{Place, OffSide, covering}
use Rattle.accept.proofs.Area.{same_area}
use Rattle.accept.proofs.Covered.{as_often}
use Rattle.accept.specs.Own.{own, OwnVerdict}
use Rattle.accept.proofs.Own.{even_none, none_even}
use Rattle.accept.specs.Own as run
use Rattle.accept.proofs.Own as run_laws
use Rattle.accept.specs.Bare.{bared}
use Rattle.accept.proofs.Bare as bare
use Rattle.accept.specs.Theorems.{Accepted, Clean}

-- ---- what the verdict means, clause by clause
module _ (j : Judged) where
  -- 7, of points in doubles: none exactly where the given points are the first of the points,
  -- else the first that is not
  pub kept_means : All Doubles j.given → All Doubles j.points → NamesMoved j.given j.points (verdict j).moved
  unfolding verdict
  kept_means = names_moved j.given j.points

  -- 2: the first quad that does not turn left at its four corners
  pub convex_means : NamesFirst (λ q. All TurnsLeft (quad_corners j.points q)) j.quads (verdict j).folded
  unfolding verdict
  convex_means = names_first (is_convex j) _ (convex_decides j) j.quads

  -- 4: the first quad with a corner whose cosine is over the limit plus 1e-9
  pub corners_mean : NamesFirst (λ q. All (CosineUpTo j.cosine) (quad_corners j.points q)) j.quads (verdict j).sharp
  unfolding verdict
  corners_mean = names_first (is_wide j) _ (wide_decides j) j.quads

  -- the first triangle that does not run counterclockwise, given or left over
  pub given_means : NamesFirst (Counterclockwise j.given) j.tris (verdict j).given_turned
  unfolding verdict
  given_means = names_first (counterclockwise j.given) _ (turn_decides j.given) j.tris

  pub left_means : NamesFirst (Counterclockwise j.points) j.left (verdict j).left_turned
  unfolding verdict
  left_means = names_first (counterclockwise j.points) _ (turn_decides j.points) j.left

  -- the first leftover triangle with a corner whose cosine is over the second limit plus 1e-9,
  -- where that limit is below 1
  pub thin_means : NamesFirst (BluntAt j) j.left (verdict j).thin
  unfolding verdict
  thin_means = names_first (is_blunt j) _ (blunt_decides j) j.left

  -- a limit that is not below 1 has no offender
  pub thin_unasked : (j.thin ≺ 1·0) ≡ false → (verdict j).thin ≡ none
  thin_unasked e = thin_means.holds_none (all_from j.left (λ t i a. never _ a e))

  -- the least edge between whose ends the sides do not balance
  pub level_means : NamesLeast j (verdict j).uneven
  unfolding verdict
  level_means = names_least j

  -- Between two nodes the sides balance where the given triangles' sides one way and the cells' the other
  -- are as many as those the other way and the one.
  pub level_counts : (u v : ℕ)
      → (Level j u v → times (u, v) (given_sides j) + times (v, u) (cell_sides j) ≡ times (v, u) (given_sides j) + times (u, v) (cell_sides j))
      × (times (u, v) (given_sides j) + times (v, u) (cell_sides j) ≡ times (v, u) (given_sides j) + times (u, v) (cell_sides j) → Level j u v)
  level_counts u v = (λ h. sym (times_walked j (u, v)) ∙ h ∙ times_walked j (v, u), λ h. times_walked j (u, v) ∙ h ∙ sym (times_walked j (v, u)))

  -- the first joint that a given triangle has and no cell
  pub joints_mean : NamesFirst (λ e. e ∈ flat_map tri_edges j.tris → EdgeOf j.quads j.left e) j.joints (verdict j).lost
  unfolding verdict
  joints_mean = names_first (stands j) _ (stands_decides j) j.joints

  -- 5, of triangles with three nodes: the sizes are those of the leftover triangles' components,
  -- and no odd one is counted exactly where all are even
  pub sizes_mean : AllDistinct j.left → Components j.left (verdict j).sizes
  unfolding verdict
  sizes_mean = components_right j.left

  pub odd_means : ((verdict j).odd ≡ 0 → All Even (verdict j).sizes) × (All Even (verdict j).sizes → (verdict j).odd ≡ 0)
  unfolding verdict
  odd_means = (none_even (component_sizes j.left), even_none (component_sizes j.left))

  -- with the limit of the standard set no corner is under 24.99 degrees
  pub wide_corners : j.cosine ≡ base.largest_cosine → Wide j → All (λ q. All WideEnough (quad_corners j.points q)) j.quads
  wide_corners e h = all_one _ (λ q k. all_one _ (wide j.cosine e) (quad_corners j.points q) k) j.quads h

-- ---- what the clauses give together
module _ (j : Judged) (named : Named j) (kept : Kept j) (convex : Convex j) (cover : Cover j) where
  -- The quads and the leftover triangles have together the exact area of the given triangles.
  pub cover_area : quads_area j.points j.quads + tris_area j.points j.left ≡ tris_area j.given j.tris
  cover_area = same_area j named kept convex cover

  -- Every place of the plane that is on no side of a given triangle or a cell is strictly inside as many cells as
  -- given triangles: there is no gap, and no overlap that was not given.
  pub covered_as_often : (s : Place) → All (OffSide s j.given) (given_sides j) → All (OffSide s j.points) (cell_sides j)
      → covering s j.points quad_sides j.quads + covering s j.points tri_sides j.left ≡ covering s j.given tri_sides j.tris
  covered_as_often s g c = as_often j named kept convex cover s g c

-- the clauses of a verdict without offender
pub clean_says : (j : Judged) → Named j → All Doubles j.given → All Doubles j.points → Clean (verdict j) → Accepted j
clean_says j named dg dp v =
    let kept = (kept_means j dg dp).none_holds v.moved in
    let convex = (convex_means j).none_holds v.folded in
    let cover : Cover j = record { given_turn = (given_means j).none_holds v.given_turned; left_turn = (left_means j).none_holds v.left_turned; level = (level_means j).none_holds v.uneven } in
    record {
      kept = kept;
      convex = convex;
      corners = (corners_mean j).none_holds v.sharp;
      blunt = (thin_means j).none_holds v.thin;
      cover = cover;
      joints = record { joints_found = (joints_mean j).none_holds v.lost };
      area = cover_area j named kept convex cover;
      covered = covered_as_often j named kept convex cover;
    }

-- A mesh of which every clause holds has no offender.
-- What the call says, of triangles wound either way, is in Upright.
pub says_clean : (j : Judged) → All Doubles j.given → All Doubles j.points → Kept j → Convex j → Wide j → Blunt j → Cover j → Stands j → Clean (verdict j)
says_clean j dg dp kept convex corners blunt cover joints =
    record {
      moved = (kept_means j dg dp).holds_none kept;
      folded = (convex_means j).holds_none convex;
      sharp = (corners_mean j).holds_none corners;
      given_turned = (given_means j).holds_none cover.given_turn;
      left_turned = (left_means j).holds_none cover.left_turn;
      thin = (thin_means j).holds_none blunt;
      uneven = (level_means j).holds_none cover.level;
      lost = (joints_mean j).holds_none joints.joints_found;
    }

-- ---- the mesh of a run
-- By its account and its joints the mesh of a finished run has no offender but those of the cover,
-- and no odd component under the even rule where one quad was made.
pub own_mesh : (given : List Node) (tris : List Tri) (stop : ℕ) (y : Quality) (most capacity slots : ℕ) (c : Counts) (points : List Node) (quads : List Quad) (left : List Tri) (sizes : List ℕ) (joints : List Edge)
    → Account given tris stop y most capacity slots c points quads left sizes → JointsSurvive joints tris quads left → AllDistinct left
    → OwnVerdict (verdict (own given tris y points quads left joints)) c stop (length quads)
own_mesh given tris stop y most capacity slots c points quads left sizes joints a s d = run_laws.own_mesh given tris stop y most capacity slots c points quads left sizes joints a s d

-- What a finished call of the mesher leaves in its slices has no offender but those of the cover,
-- and no odd component under the even rule where one quad was made:
-- whatever is handed in and whatever its limit on attempts.
pub own_call : (most : ℕ) (a : Asked) (l : Lent) → fits binary64 a.quality.largest_cosine ≡ true → (c : Counts) (n : Lengths) → (call_within most a l).answer ≡ finished c n
    → OwnVerdict (verdict (run.own_call a l (call_within most a l).lent n)) c a.stop (length (first_quads n.quads (call_within most a l).lent.quads))
own_call most a l double c n e = run_laws.run_verdict most a l double c n e

-- The verdict reads of a quad its four nodes only, so a run's quads may be handed in by these.
pub nodes_only : (j : Judged) → verdict (bared j) ≡ verdict j
nodes_only j = bare.nodes_only j
