-- The cell mesh: live triangles and quads in one list, in the order in which they were last indexed.
use Rattle.std.specs.Prelude.{Bool, true, false, not, ◌&&◌, ◌||◌, List, [], ◌∷◌, ◌++◌, ℕ, suc, min, max, leb, ltb, eqb, length, Float}
use Rattle.std.proofs.Math.Option.{Option, none, some}
use Rattle.definition.specs.Lists.{filter, any, find, first, sort, flat_map, below, contains}
use Rattle.definition.specs.Plane.{Node, Edge, point}

-- a triangle's nodes
pub record Tri : Type 0 where
  pub n0 : ℕ
  pub n1 : ℕ
  pub n2 : ℕ

-- A quad's nodes, in their order around it; and its birth: the front edge it grew from, the round, counted from 1,
-- and how many triangles it replaced.
-- A quad that is not placed yet has round 0.
pub record Quad : Type 0 where
  pub n0 : ℕ
  pub n1 : ℕ
  pub n2 : ℕ
  pub n3 : ℕ
  pub edge : Edge
  pub round : ℕ
  pub replaced : ℕ

-- a cell of the mesh is a triangle or a quad
pub data Cell : Type 0 where
  tri : Tri → Cell
  quad : Quad → Cell

-- a live cell and the slot that it has
pub record Live : Type 0 where
  pub slot : ℕ
  pub cell : Cell

-- what changed a mesh: the triangle in a slot was split at a point; an edge was flipped;
-- a quad was placed on the cells of some slots, in the region's order
pub data Event : Type 0 where
  was_split : ℕ → Node → Event
  was_flipped : Edge → Event
  was_placed : Quad → List ℕ → Event

-- The points; how many slots were given out so far; the live cells; the bucket's side; which edges are locked;
-- the words of the lent trace, 0 where none is lent; and what happened so far.
-- All else that the Rust's `CellMesh` holds follows from these.
-- A removed cell's slot is never used again.
pub record Mesh : Type 0 where
  pub points : List Node
  pub used : ℕ
  pub live : List Live
  pub bucket : Float
  pub locked : Edge → Bool
  pub room : ℕ
  pub history : List Event

-- the triangle of three nodes
unfoldable pub new_tri : ℕ → ℕ → ℕ → Tri
new_tri a b c = record { n0 = a; n1 = b; n2 = c }

-- a cell in its slot
unfoldable pub new_live : ℕ → Cell → Live
new_live id c = record { slot = id; cell = c }

-- ---- a cell's nodes and edges; an edge has its smaller node first

-- the edge between two nodes
unfoldable pub key : ℕ → ℕ → Edge
key a b = (min a b, max a b)

-- the quad of four nodes on the front edge between the first two
unfoldable pub new_quad : ℕ → ℕ → ℕ → ℕ → Quad
new_quad a b c d = record { n0 = a; n1 = b; n2 = c; n3 = d; edge = key a b; round = 0; replaced = 0 }

-- the quad, placed in a round, in place of so many triangles
unfoldable pub born : ℕ → ℕ → Quad → Quad
born r k q = record { n0 = q.n0; n1 = q.n1; n2 = q.n2; n3 = q.n3; edge = q.edge; round = r; replaced = k }

-- a triangle's nodes in order
unfoldable pub tri_nodes : Tri → List ℕ
tri_nodes t = t.n0 ∷ t.n1 ∷ t.n2 ∷ []

-- a quad's nodes in order
unfoldable pub quad_nodes : Quad → List ℕ
quad_nodes q = q.n0 ∷ q.n1 ∷ q.n2 ∷ q.n3 ∷ []

-- a cell's nodes in order
unfoldable pub nodes : Cell → List ℕ
nodes (tri t) = tri_nodes t
nodes (quad q) = quad_nodes q

-- a triangle's edges in order
unfoldable pub tri_edges : Tri → List Edge
tri_edges t = key t.n0 t.n1 ∷ key t.n1 t.n2 ∷ key t.n2 t.n0 ∷ []

-- a quad's edges in order
unfoldable pub quad_edges : Quad → List Edge
quad_edges q = key q.n0 q.n1 ∷ key q.n1 q.n2 ∷ key q.n2 q.n3 ∷ key q.n3 q.n0 ∷ []

-- a cell's edges in order
unfoldable pub edges : Cell → List Edge
edges (tri t) = tri_edges t
edges (quad q) = quad_edges q

-- the cell is a triangle
unfoldable pub is_tri : Cell → Bool
is_tri (tri t) = true
is_tri (quad q) = false

-- the two are one edge
unfoldable pub same_edge : Edge → Edge → Bool
same_edge e f = eqb e.0 f.0 && eqb e.1 f.1

-- the order of edges by node numbers
unfoldable pub edge_before : Edge → Edge → Bool
edge_before e f = ltb e.0 f.0 || eqb e.0 f.0 && ltb e.1 f.1

-- the node is an end of the edge
unfoldable pub touches : Edge → ℕ → Bool
touches e n = eqb e.0 n || eqb e.1 n

-- the edge is in the list
unfoldable pub has_edge_in : List Edge → Edge → Bool
has_edge_in es e = any (same_edge e) es

-- ---- owners

-- a node of the mesh
unfoldable pub node_at : Mesh → ℕ → Node
node_at m v = point m.points v

-- the live cell is a triangle
unfoldable pub live_tri : Live → Bool
live_tri x = is_tri x.cell

-- the node is one of the triangle's
unfoldable pub tri_has : Tri → ℕ → Bool
tri_has t n = eqb t.n0 n || eqb t.n1 n || eqb t.n2 n

-- The cell has the edge. An edge's two nodes differ, and two nodes of a triangle are the ends of an edge of it.
unfoldable pub has_side : Edge → Cell → Bool
has_side e (tri t) = tri_has t e.0 && tri_has t e.1
has_side e (quad q) = has_edge_in (quad_edges q) e

-- the live cell has the edge
unfoldable pub owns : Edge → Live → Bool
owns e x = has_side e x.cell

-- the live cell is that of the slot
unfoldable pub in_slot : ℕ → Live → Bool
in_slot id x = eqb id x.slot

-- the live cell in a slot
unfoldable pub cell_of : Mesh → ℕ → Option Live
cell_of m id = find (in_slot id) m.live

-- `edge_cells`: an edge's owners, in the order in which they came
unfoldable pub owners : Mesh → Edge → List Live
owners m e = filter (owns e) m.live

-- the triangles among the owners
unfoldable pub tri_owners : Mesh → Edge → List Live
tri_owners m e = filter live_tri (owners m e)

-- the first triangle that owns the edge
unfoldable pub tri_owner : Mesh → Edge → Option Live
tri_owner m e = first (tri_owners m e)

-- owners of a front edge: one or two, exactly one of them a triangle
unfoldable pub front_owners : List Live → Bool
front_owners xs = leb (length xs) 2 && eqb (length (filter live_tri xs)) 1

-- the edge is on the front
unfoldable pub is_front : Mesh → Edge → Bool
is_front m e = front_owners (owners m e)

-- some live cell has the edge between u and v
unfoldable pub has_edge : Mesh → ℕ → ℕ → Bool
has_edge m u v = any (owns (key u v)) m.live

-- the edge is locked: it is not flipped, and no quad covers it
unfoldable pub is_locked : Mesh → Edge → Bool
is_locked m e = m.locked e

-- ---- the whole mesh

-- how many live triangles there are
unfoldable pub live_tris : Mesh → ℕ
live_tris m = length (filter live_tri m.live)

-- the round that a mesh is in: every round before it placed a quad, and no quad is taken away
unfoldable pub this_round : Mesh → ℕ
this_round m = suc (length (filter (λ x. not (live_tri x)) m.live))

-- the edges of the live cells, an edge once for each of its owners
unfoldable pub all_edges : Mesh → List Edge
all_edges m = flat_map (λ x. edges x.cell) m.live

-- the cell has the node
unfoldable pub has_node : ℕ → Live → Bool
has_node u x = contains (nodes x.cell) u

-- the cells at a node: the owners of an edge are among the cells at its first node
unfoldable pub cells_at : Mesh → ℕ → List Live
cells_at m u = filter (has_node u) m.live

-- a cell's triangle, where it is one
unfoldable pub tri_of : Cell → List Tri
tri_of (tri t) = t ∷ []
tri_of (quad q) = []

-- the triangles of some live cells, in their order
unfoldable pub tris_of : List Live → List Tri
tris_of xs = flat_map (λ x. tri_of x.cell) xs

-- live cells sorted by ascending slot
unfoldable pub in_slot_order : List Live → List Live
in_slot_order xs = sort (λ x y. ltb x.slot y.slot) xs

-- the live triangles, by ascending slot
unfoldable pub triangles : Mesh → List Tri
triangles m = tris_of (in_slot_order m.live)

-- the edge begins at u and is on the front, by its owners among the cells at u
unfoldable pub front_from : ℕ → List Live → Edge → Bool
front_from u near e = eqb e.0 u && front_owners (filter (owns e) near)

-- the front edges whose smaller node is u, ascending; each has one triangle, so it is listed once
unfoldable pub front_at : Mesh → ℕ → List Edge
front_at m u =
    let near = cells_at m u in
    sort edge_before (filter (front_from u near) (flat_map tri_edges (tris_of near)))

-- the front, ascending by node numbers
unfoldable pub front : Mesh → List Edge
front m = flat_map (front_at m) (below (length m.points))

-- ---- changes of the live list: a cell is re-indexed whole, so it comes last among the owners of each of its edges

-- the mesh with other live cells
unfoldable pub with_live : Mesh → ℕ → List Live → Mesh
with_live m n xs = record { points = m.points; used = n; live = xs; bucket = m.bucket; locked = m.locked; room = m.room; history = m.history }

-- the mesh with one event more
unfoldable pub noting : Event → Mesh → Mesh
noting v m =
    record { points = m.points; used = m.used; live = m.live; bucket = m.bucket; locked = m.locked; room = m.room; history = m.history ++ (v ∷ []) }

-- the cells in other slots
unfoldable pub without : ℕ → List Live → List Live
without id xs = filter (λ x. not (in_slot id x)) xs

-- a cell of x's slot is in the list
unfoldable pub among : List Live → Live → Bool
among xs x = any (in_slot x.slot) xs

-- the cells whose slots are not those of the given ones
unfoldable pub without_all : List Live → List Live → List Live
without_all gone xs = filter (λ x. not (among gone x)) xs

-- the slot's cell taken out
unfoldable pub remove_cell : Mesh → ℕ → Mesh
remove_cell m id = with_live m m.used (without id m.live)

-- `remove_cell` of each of the given cells
unfoldable pub remove_cells : Mesh → List Live → Mesh
remove_cells m gone = with_live m m.used (without_all gone m.live)

-- the slot's cell replaced
unfoldable pub set_cell : Mesh → ℕ → Cell → Mesh
set_cell m id c = with_live m m.used (without id m.live ++ (new_live id c ∷ []))

-- a new cell in the next slot
unfoldable pub push_cell : Mesh → Cell → Mesh
push_cell m c = with_live m (suc m.used) (m.live ++ (new_live m.used c ∷ []))
