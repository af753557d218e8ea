-- Flips, and the recovery of an edge by flips.
use Rattle.std.specs.Prelude.{Bool, true, false, not, ◌&&◌, ◌||◌, cond, List, [], ◌∷◌, ℕ, zero, suc, eqb, Float}
use Rattle.std.proofs.Math.Option.{Option, none, some}
use Rattle.definition.specs.Lists.{filter, first, sort}
use Rattle.definition.specs.Floats.{◌⊗◌, ◌⊘◌, ◌≼◌, lesser, greater, 0·0}
use Rattle.definition.specs.Root.{floor}
use Rattle.definition.specs.Plane.{Node, Edge, side, segments_cross}
use Rattle.definition.specs.Cells.{Tri, Cell, tri, quad, Live, was_flipped, Mesh, new_tri, edge_before, touches, node_at, owners, has_edge, is_locked, all_edges, noting, set_cell}
use Rattle.definition.specs.Trace.{in_room}

-- ---- flip

-- the node is no end of the edge
unfoldable pub off_edge : Edge → ℕ → Bool
off_edge e n = not (eqb n e.0) && not (eqb n e.1)

-- the triangle's first node that is not on the edge
unfoldable pub third : Tri → Edge → ℕ
third t e = cond (off_edge e t.n0) t.n0 (cond (off_edge e t.n1) t.n1 t.n2)

-- a and b are not on one side of the line through u and v, nor on the line
unfoldable pub apart : Mesh → ℕ → ℕ → ℕ → ℕ → Bool
apart m u v a b = not (0·0 ≼ side (node_at m u) (node_at m v) (node_at m a) ⊗ side (node_at m u) (node_at m v) (node_at m b))

-- the two triangles on the edge u v with the third nodes p and q form a strictly convex quad
unfoldable pub convex_pair : Mesh → ℕ → ℕ → ℕ → ℕ → Bool
convex_pair m u v p q = not (eqb p q) && apart m u v p q && apart m p q u v

-- a and b are the edge's first and second node
unfoldable pub is_step : Edge → ℕ → ℕ → Bool
is_step e a b = eqb a e.0 && eqb b e.1

-- the triangle runs along the edge from its first node to its second
unfoldable pub runs : Tri → Edge → Bool
runs t e = is_step e t.n0 t.n1 || is_step e t.n1 t.n2 || is_step e t.n2 t.n0

-- of the two triangles on the other diagonal p q, the one at the edge's first node,
-- by whether the first owner ran along the edge
unfoldable pub first_turned : Bool → Edge → ℕ → ℕ → Tri
first_turned true e p q = new_tri p e.0 q
first_turned false e p q = new_tri p q e.0

-- of the two triangles on the other diagonal p q, the one at the edge's second node
unfoldable pub second_turned : Bool → Edge → ℕ → ℕ → Tri
second_turned true e p q = new_tri q e.1 p
second_turned false e p q = new_tri q p e.1

-- two slots' cells replaced, one after the other
unfoldable pub set_tris : Mesh → ℕ → Tri → ℕ → Tri → Mesh
set_tris m i s j t = set_cell (set_cell m i (tri s)) j (tri t)

-- the other diagonal, with the winding of the first triangle
unfoldable pub flipped : Mesh → Edge → ℕ → Tri → ℕ → ℕ → ℕ → Mesh
flipped m e i t j p q = noting (was_flipped e) (set_tris m i (first_turned (runs t e) e p q) j (second_turned (runs t e) e p q))

-- the flip of an edge whose triangles have the third nodes p and q
unfoldable pub flip_tris : Mesh → Edge → ℕ → Tri → ℕ → Tri → Option Mesh
flip_tris m e i s j t =
    let p = third s e in
    let q = third t e in
    let result = some (flipped m e i s j p q) in
    cond (convex_pair m e.0 e.1 p q) result none

-- the flip of an edge both of whose owners are triangles
unfoldable pub flip_cells : Mesh → Edge → ℕ → Cell → ℕ → Cell → Option Mesh
flip_cells m e i (tri s) j (tri t) = flip_tris m e i s j t
flip_cells m e i (tri s) j (quad q) = none
flip_cells m e i (quad q) j c = none

-- the flip of an edge that has exactly two owners
unfoldable pub flip_owners : Mesh → Edge → List Live → Option Mesh
flip_owners m e [] = none
flip_owners m e (x ∷ []) = none
flip_owners m e (x ∷ y ∷ []) = flip_cells m e x.slot x.cell y.slot y.cell
flip_owners m e (x ∷ y ∷ z ∷ more) = none

-- the mesh with the edge flipped;
-- none where it is locked, or unless it has exactly two owners, both triangles, that form a strictly convex quad
unfoldable pub flip : Mesh → Edge → Option Mesh
flip m e = let free = flip_owners m e (owners m e) in cond (is_locked m e) none free

-- ---- first_crossing

-- The bucket of a coordinate, a whole number.
-- The Rust casts it to i64; whole numbers as small as these compare alike as doubles.
unfoldable pub bucket_key : Mesh → Float → Float
bucket_key m c = floor (c ⊘ m.bucket)

-- the range of p and q meets that of r and s
unfoldable pub ranges_meet : Float → Float → Float → Float → Bool
ranges_meet p q r s = lesser p q ≼ greater r s && lesser r s ≼ greater p q

-- the segments p q and r s overlap in bucket range on both axes
unfoldable pub overlaps : Mesh → Node → Node → Node → Node → Bool
overlaps m p q r s =
    let rows = ranges_meet (bucket_key m p.y) (bucket_key m q.y) (bucket_key m r.y) (bucket_key m s.y) in
    ranges_meet (bucket_key m p.x) (bucket_key m q.x) (bucket_key m r.x) (bucket_key m s.x) && rows

-- the edge shares no node with the segment u v, crosses it, and overlaps it in bucket range on both axes
unfoldable pub is_crossing : Mesh → ℕ → ℕ → Edge → Bool
is_crossing m u v e =
    let p = node_at m u in
    let q = node_at m v in
    let r = node_at m e.0 in
    let s = node_at m e.1 in
    let crosses = segments_cross p q r s in
    let near = overlaps m p q r s in
    not (touches e u) && not (touches e v) && crosses && near

-- the smallest edge of the mesh that crosses the segment, by node numbers
unfoldable pub first_crossing : Mesh → ℕ → ℕ → Option Edge
first_crossing m u v = first (sort edge_before (filter (is_crossing m u v) (all_edges m)))

-- ---- recover

-- the mesh with the smallest crossing edge flipped
unfoldable pub flip_first : Mesh → Option Edge → Option Mesh
flip_first m none = none
flip_first m (some e) = flip m e

-- whether the edge is there; whether the recovery ended for want of trace; the flips made, and the mesh after them
pub record Recovered : Type 0 where
  pub there : Bool
  pub short : Bool
  pub flips : ℕ
  pub mesh : Mesh

-- at most n flips after the k made so far; the flips made stay.
-- A flip whose entry does not fit the lent trace is not made.
unfoldable pub recover_in : ℕ → ℕ → Mesh → ℕ → ℕ → Recovered
recover_in zero k m u v = record { there = has_edge m u v; short = false; flips = k; mesh = m }
recover_in (suc n) k m u v =
    elim (has_edge m u v) [
      | true ↦ record { there = true; short = false; flips = k; mesh = m }
      | false ↦ elim (flip_first m (first_crossing m u v)) [
        | none ↦ record { there = false; short = false; flips = k; mesh = m }
        | some flipped_once ↦ elim (in_room flipped_once) [
          | true ↦ recover_in n (suc k) flipped_once u v
          | false ↦ record { there = false; short = true; flips = k; mesh = m }
        ]
      ]
    ]

-- as many flips as slots were given out, removed ones included
unfoldable pub recover : Mesh → ℕ → ℕ → Recovered
recover m u v = recover_in m.used 0 m u v
