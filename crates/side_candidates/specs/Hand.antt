-- The region in hand, and what the tests on it ask.
use Rattle.std.specs.Prelude.{◌≡◌, Bool, not, ◌&&◌, ◌||◌, List, ℕ, ◌<◌, ◌≤◌, eqb, length, Float}
use Rattle.definition.specs.Plane.{Edge}
use Rattle.definition.specs.Lists.{any}
use Rattle.definition.specs.Cells.{Live, Mesh, has_node}
use Rattle.definition.specs.Candidates.{shared_by_tris, passes_by, walls, segment_inside}
use Rattle.laws.specs.Lists.{Stored}
use Rattle.laws.specs.Frames.{Only}
use Rattle.cells.specs.Layout.{list_at, refused_at}
use Rattle.cells.specs.Rep.{Rep, Pts, slots}
use Rattle.live_regions.specs.Walls.{wall_mark}
use Rattle.live_regions.specs.Stack.{Inner, Noted}

-- the slices stand for the mesh, and the list has the n triangles of the region, whose marks tell their walls
pub record InHand (w : List ℕ) (q : List Float) (s p n : ℕ) (m : Mesh) (region : List Live) : Type 0 where
  pub rep : Rep w s p m
  pub pts : Pts q p m
  pub len : n ≡ length region
  pub few : n ≤ s
  pub stored : Stored w (list_at s p) (slots region)
  pub inner : Inner m region
  pub noted : Noted w s p m region

-- a triangle with a wall: its mark is not 8
unfoldable pub fenced : Mesh → Live → Bool
fenced m x = not (eqb (wall_mark m x) 8)

-- the list has the r triangles of the region now, and nothing but words of the list changed
pub record KeptTo (w w' : List ℕ) (q : List Float) (s p r : ℕ) (m : Mesh) (region : List Live) : Type 0 where
  pub hand : InHand w' q s p r m region
  pub only : Only w w' (list_at s p) (refused_at s p)

-- the ends of a segment are nodes of the mesh
pub record Ends (m : Mesh) (a b : ℕ) : Type 0 where
  pub first : a < length m.points
  pub second : b < length m.points

-- two triangles share the edge, or the segment a b does not cross it
unfoldable pub open_edge : Mesh → ℕ → ℕ → Edge → Bool
open_edge m a b e = shared_by_tris m e || passes_by m a b e

-- v is a node of the region, other than the two ends, and its segment from a stays inside
unfoldable pub in_view : Mesh → ℕ → ℕ → List Live → ℕ → Bool
in_view m a other region v = not (eqb v a) && not (eqb v other) && any (has_node v) region && segment_inside m a v (walls m region)
