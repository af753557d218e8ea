-- The front's loops that have an edge that is not blocked: what it takes to find them, and where they stand.
use Rattle.std.specs.Prelude.{◌≡◌, ◌*◌, ◌<◌, ◌≤◌}
use Rattle.laws.specs.Kit.{Bool, not, ℕ, List, length, get_or, Float}
use Rattle.definition.specs.Lists.{any, filter}
use Rattle.definition.specs.Plane.{Node, Edge}
use Rattle.definition.specs.Cells.{Mesh, has_edge_in}
use Rattle.definition.specs.Loops.{loops_of}
use Rattle.blocked_edges.specs.Blocks.{Blocks}
use Rattle.cells.specs.Layout.{refused_at, front_links_at}
use Rattle.cells.specs.Rep.{Pts}
use Rattle.edges.specs.Stored.{LoopList, Measured}
use Rattle.loops.specs.Loop.{CanLoop}

-- some edge of the loop is not blocked
unfoldable pub some_open : List Edge → List Edge → Bool
some_open bl l = any (λ e. not (has_edge_in bl e)) l

-- the edges bl are blocked
pub record Blocked (w : List ℕ) (s p : ℕ) (bl : List Edge) : Type 0 where
  pub quads : ℕ
  pub ever : List Edge
  pub blocks : Blocks w (refused_at s p) (3 * s) p quads ever bl

-- the loops of the edges es that have an edge that is not blocked
abbrev pub open_loops : List Edge → List Edge → List (List Edge)
open_loops bl es = filter (some_open bl) (loops_of (length es) es)

-- the k edges es of the front, over the mesh's n points, where the edges bl are blocked
pub record CanSift (w : List ℕ) (q f : List Float) (s p n k : ℕ) (m : Mesh) (es bl : List Edge) : Type 0 where
  pub front : CanLoop w s p n k es
  pub points : length m.points ≡ n
  pub pts : Pts q p m
  pub floats : 3 * s ≤ length f
  pub blocked : Blocked w s p bl

-- they stand as r loops of k edges, with their perimeters where they are more than one,
-- and nothing changed before the links
pub record SiftedTo (w w' : List ℕ) (f f' : List Float) (s p n r k : ℕ) (ps : List Node) (es bl : List Edge) : Type 0 where
  pub loops : LoopList w' s p n k r (open_loops bl es)
  pub sums : Measured f' s p r ps (open_loops bl es)
  pub len : length w' ≡ length w
  pub reals : length f' ≡ length f
  pub below : (i : ℕ) → i < front_links_at s p → get_or w' i 0 ≡ get_or w i 0
