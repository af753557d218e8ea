-- Nodes in the lent points: what stands for a node, and how a mesh's nodes are read from the slice.
use Rattle.std.specs.Prelude.{◌≡◌, ◌+◌, ◌*◌, ◌<◌}
use Rattle.laws.specs.Kit.{ap, not, ℕ, List, length, Float}
use Rattle.definition.specs.Floats.{◌⊗◌, ◌≼◌, 0·0}
use Rattle.definition.specs.Plane.{Node, flat, side, from_to, dist, edge_length}
use Rattle.definition.specs.Cells.{Mesh, node_at}
use Rattle.definition.specs.Flips.{apart}
use Rattle.definition.specs.Call.{point_at, first_points}
use Rattle.laws.specs.Cells.{point_of}
use Rattle.plane.specs.declared.points.Spot.{Spot}

-- node a is in the slice
abbrev pub Within : List Float → ℕ → Type 0
Within q a = 3 * a + 2 < length q

-- the node of a spot, with z 0.0
unfoldable pub node : Spot → Node
node s = flat s.x s.y

-- a node with z 0.0
unfoldable pub ground : Node → Node
ground p = flat p.x p.y

-- ---- a mesh whose points are the first of the slice

-- a node of the mesh
pub node_of : (m : Mesh) (n : ℕ) (q : List Float) → m.points ≡ first_points n q → (a : ℕ) → a < n → node_at m a ≡ point_at q a
unfolding node_at
node_of m n q e a h = rw e (point_of n q a h)

-- an edge's length
pub edge_length_of : (n : ℕ) (q : List Float) (u v : ℕ) → u < n → v < n
    → edge_length (first_points n q) (u, v) ≡ dist (point_at q v) (point_at q u)
unfolding edge_length
edge_length_of n q u v hu hv = rw (point_of n q u, point_of n q v)

-- two nodes of a line through two others, as `flip` asks of a pair
pub apart_of : (m : Mesh) (n : ℕ) (q : List Float) → m.points ≡ first_points n q → (u v a b : ℕ) → u < n → v < n → a < n → b < n
    → apart m u v a b
    ≡ not (0·0 ≼ side (point_at q u) (point_at q v) (point_at q a) ⊗ side (point_at q u) (point_at q v) (point_at q b))
unfolding apart
apart_of m n q e u v a b hu hv ha hb = rw (node_of m n q e u hu, node_of m n q e v hv, node_of m n q e a ha, node_of m n q e b hb)

-- ---- a node by its x and y

-- what `at` says of a spot
pub spot_x : (s : Spot) (p : Node) → node s ≡ ground p → s.x ≡ p.x
unfolding node ground flat
spot_x s p e = ap (λ (t : Node). t.x) e

pub spot_y : (s : Spot) (p : Node) → node s ≡ ground p → s.y ≡ p.y
unfolding node ground flat
spot_y s p e = ap (λ (t : Node). t.y) e

-- z is not read in a distance from a point that is given by x and y
pub dist_at : (p o : Node) {x y : Float} → x ≡ o.x → y ≡ o.y → (dist p (flat x y) ≡ dist p o) × (dist (flat x y) p ≡ dist o p)
unfolding dist from_to flat
dist_at p o e f = (rw (e, f), rw (e, f))
