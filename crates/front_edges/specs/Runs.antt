-- The front edges of one node in the lent work slice, and what a walk of the node's ring has met of them.
use Rattle.std.specs.Prelude.{◌≡◌, ◌≢◌, ◌+◌, ◌*◌, ◌<◌, ◌≤◌, ◌∷◌}
use Rattle.laws.specs.Kit.{true, ℕ, List, [], length, get_or}
use Rattle.rings.specs.Rings.{nx}
use Rattle.definition.specs.Lists.{filter}
use Rattle.definition.specs.Plane.{Edge}
use Rattle.definition.specs.Cells.{Live, Mesh, key, live_tri, is_front, front_at}
use Rattle.definition.specs.Account.{◌∈◌}
use Rattle.laws.specs.Lists.{Stored}
use Rattle.cells.specs.Layout.{rings_at, front_u_at, front_v_at, front_links_at}
use Rattle.cells.specs.Rep.{Room, Rep}
use Rattle.cells.specs.Walk.{own, Pos, left}
use Rattle.front_edges.specs.Rows.{Ascending, Distinct}

-- ---- the edges of one node

-- the edges from u to the nodes vs
abbrev pub pairs : ℕ → List ℕ → List Edge
pairs u [] = []
pairs u (v ∷ vs) = (u, v) ∷ pairs u vs

-- the edges from u to the nodes vs, which ascend, stand in the places from `from` to k
pub record Run (w : List ℕ) (s p u from k : ℕ) (vs : List ℕ) : Type 0 where
  pub len : from + length vs ≡ k
  pub firsts : (i : ℕ) → from ≤ i → i < k → get_or w (front_u_at s p + i) 0 ≡ u
  pub seconds : Stored w (front_v_at s p + from) vs
  pub up : Ascending vs

-- the edges from u to the nodes vs, which differ, stand in the places from `from` to k in any order
pub record Row (w : List ℕ) (s p u from k : ℕ) (vs : List ℕ) : Type 0 where
  pub len : from + length vs ≡ k
  pub firsts : (i : ℕ) → from ≤ i → i < k → get_or w (front_u_at s p + i) 0 ≡ u
  pub seconds : Stored w (front_v_at s p + from) vs
  pub apart : Distinct vs

-- nothing changed but edges in the places from `from` on
pub record Beyond (w w' : List ℕ) (s p from : ℕ) : Type 0 where
  pub len : length w' ≡ length w
  pub firsts : (i : ℕ) → i < front_u_at s p + from → get_or w' i 0 ≡ get_or w i 0
  pub seconds : (i : ℕ) → front_v_at s p ≤ i → i < front_v_at s p + from → get_or w' i 0 ≡ get_or w i 0
  pub behind : (i : ℕ) → front_links_at s p ≤ i → get_or w' i 0 ≡ get_or w i 0

-- what one edge more asks
pub record CanPut (w : List ℕ) (s p u v k : ℕ) : Type 0 where
  pub room : Room w s p
  pub inside : k < 3 * s
  pub first : u < p
  pub second : v < p

-- the edge u-v stands in place k
pub record PutTo (w w' : List ℕ) (s p u v k : ℕ) : Type 0 where
  pub first : get_or w' (front_u_at s p + k) 0 ≡ u
  pub second : get_or w' (front_v_at s p + k) 0 ≡ v
  pub beyond : Beyond w w' s p k

-- ---- front edges

-- u-v is on the front, and u is its smaller node
pub record Good (m : Mesh) (u v : ℕ) : Type 0 where
  pub up : u < v
  pub front : is_front m (key u v) ≡ true

-- what a try of the edge u-v asks
pub record CanTry (w : List ℕ) (s p u v k : ℕ) (m : Mesh) : Type 0 where
  pub rep : Rep w s p m
  pub first : u < p
  pub second : v < p
  pub inside : Good m u v → k < 3 * s

-- the edge stands in place k where it is on the front and u is its smaller node
pub data Tried (m : Mesh) (w w' : List ℕ) (s p u v k r : ℕ) : Type 0 where
  passed : w' ≡ w → r ≡ k → (Good m u v → ⊥) → Tried m w w' s p u v k r
  taken : r ≡ k + 1 → Good m u v → PutTo w w' s p u v k → Tried m w w' s p u v k r

-- ---- the ring of a node

-- how many triangles among some cells have the edge u-v
abbrev pub tris_on : ℕ → ℕ → List Live → ℕ
tris_on u v l = length (filter live_tri (own u v l))

-- the front edges from u whose triangle is not among the cells to come are those to the nodes vs
pub record Met (m : Mesh) (u : ℕ) (rest : List Live) (vs : List ℕ) : Type 0 where
  pub good : (v : ℕ) → v ∈ vs → Good m u v
  pub gone : (v : ℕ) → v ∈ vs → tris_on u v rest ≡ 0
  pub all : (v : ℕ) → Good m u v → tris_on u v rest ≡ 0 → v ∈ vs
  pub part : (v : ℕ) → u ≢ v → tris_on u v rest ≤ tris_on u v m.live

-- what the walk of a ring asks: room for the edges of u
pub record CanWalk (w : List ℕ) (s p u from : ℕ) (m : Mesh) : Type 0 where
  pub rep : Rep w s p m
  pub known : u < length m.points
  pub room : from + length (front_at m u) ≤ 3 * s

-- the walk is at the corner c of the ring of u, and the edges met stand in the places from `from` to k
pub record Here (w : List ℕ) (s p u from k c : ℕ) (m : Mesh) : Type 0 where
  pub can : CanWalk w s p u from m
  pub rest : List Live
  pub pos : Pos w s p u c rest
  pub vs : List ℕ
  pub row : Row w s p u from k vs
  pub met : Met m u rest vs

-- one corner on
pub record StepTo (w w' : List ℕ) (s p u from k c r : ℕ) (m : Mesh) : Type 0 where
  pub here : Here w' s p u from r (nx w' (rings_at s) c) m
  pub beyond : Beyond w w' s p from
  pub fewer : left w' s p (nx w' (rings_at s) c) < left w s p c

-- the front edges of u stand in the places from `from` to r, in any order
pub record GatherTo (w w' : List ℕ) (s p u from r : ℕ) (m : Mesh) : Type 0 where
  pub vs : List ℕ
  pub row : Row w' s p u from r vs
  pub inside : r ≤ 3 * s
  pub good : (v : ℕ) → v ∈ vs → Good m u v
  pub all : (v : ℕ) → Good m u v → v ∈ vs
  pub beyond : Beyond w w' s p from

-- the front edges of u stand in the places from `from` to r
pub record NodeTo (w w' : List ℕ) (s p u from r : ℕ) (m : Mesh) : Type 0 where
  pub vs : List ℕ
  pub run : Run w' s p u from r vs
  pub are : pairs u vs ≡ front_at m u
  pub beyond : Beyond w w' s p from
