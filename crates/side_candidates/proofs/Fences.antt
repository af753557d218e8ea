-- A segment and the edges of a region: edge after edge, cell after cell.
use mathlib.Core.Path.{◌≡◌, refl, ap, sym, ◌∙◌}
use mathlib.Core.Logic.{◌≢◌}
use mathlib.Core.Bool.{Bool, true, false, not, ◌&&◌, ◌||◌, and-true, or-false}
use mathlib.Core.List.{List, [], ◌∷◌, ◌++◌}
use Prim.Native.Nat.{ℕ, ◌+◌, ◌/◌, ◌%◌, ◌≤◌, ◌<◌}
use native.Mathlib.Omega.{arith}
use lib.Dec.{eqb}
use lib.ListN.{length}
use lib.Ieee.{Float}
use borrow.Author.Tests.{eq-eqb, ne_eqb}
use Rattle.rings.proofs.Lists.{Same, same, differ, decide}
use Rattle.definition.specs.Plane.{Edge, segments_cross}
use Rattle.definition.specs.Lists.{filter, any, all, flat_map, contains}
use Rattle.definition.specs.Cells.{Tri, tri, Live, Mesh, new_live, nodes, tri_nodes, edges, tri_edges, key, touches, node_at, has_node, tri_has}
use Rattle.definition.specs.Candidates.{shared_by_tris, passes_by, walls, segment_inside}
use Rattle.definition.specs.Call.{point_at}
use Rattle.laws.specs.Numbers.{eqb_swap}
use Rattle.cells.specs.Rep.{Pts}
use Rattle.plane.specs.Points.{node_of}
use Rattle.live_regions.specs.Walls.{counted, wall_mark}
use Rattle.live_regions.proofs.Tallies.{mark_is}
use Rattle.side_candidates.specs.Hand.{Ends, open_edge}
use Rattle.side_candidates.specs.Blocks.{open_cell}

-- ---- one edge

module _ (m : Mesh) (a b u v : ℕ) where
  pub passes_ua : u ≡ a → true ≡ passes_by m a b (u, v)
  unfolding passes_by touches
  passes_ua e = rw (eq-eqb u a e)

  pub passes_va : u ≢ a → v ≡ a → true ≡ passes_by m a b (u, v)
  unfolding passes_by touches
  passes_va n e = rw (ne_eqb u a n, eq-eqb v a e)

  pub passes_ub : u ≢ a → v ≢ a → u ≡ b → true ≡ passes_by m a b (u, v)
  unfolding passes_by touches
  passes_ub n k e = rw (ne_eqb u a n, ne_eqb v a k, eq-eqb u b e)

  pub passes_vb : u ≢ a → v ≢ a → u ≢ b → v ≡ b → true ≡ passes_by m a b (u, v)
  unfolding passes_by touches
  passes_vb n k l e = rw (ne_eqb u a n, ne_eqb v a k, ne_eqb u b l, eq-eqb v b e)

  pub passes_clear : (x : Bool) → u ≢ a → v ≢ a → u ≢ b → v ≢ b → x ≡ segments_cross (node_at m a) (node_at m b) (node_at m u) (node_at m v) → not x ≡ passes_by m a b (u, v)
  unfolding passes_by touches
  passes_clear x n k l o e = rw (ne_eqb u a n, ne_eqb v a k, ne_eqb u b l, ne_eqb v b o, ← e)

-- crossing, by the points as they are read
pub crosses_read : (q : List Float) (p : ℕ) (m : Mesh) → Pts q p m → (a b u v : ℕ) → Ends m a b → Ends m u v
    → segments_cross (point_at q a) (point_at q b) (point_at q u) (point_at q v) ≡ segments_cross (node_at m a) (node_at m b) (node_at m u) (node_at m v)
crosses_read q p m k a b u v e f =
    let r = node_of m (length m.points) q k.are in
    rw (r a e.first, r b e.second, r u f.first, r v f.second)

module _ (m : Mesh) (a b : ℕ) (e : Edge) where
  pub open_shared : true ≡ shared_by_tris m e → true ≡ open_edge m a b e
  unfolding open_edge
  open_shared h = rw (← h)

  pub open_wall : (x : Bool) → false ≡ shared_by_tris m e → x ≡ passes_by m a b e → x ≡ open_edge m a b e
  unfolding open_edge
  open_wall x h k = rw (← h) k

-- ---- one triangle

-- the mark as a number, by which edges are shared
marked : Bool → Bool → Bool → ℕ
marked a b c = 8 + counted a 1 + counted b 2 + counted c 4

bit_0 : (a b c : Bool) → eqb (marked a b c % 2) 0 ≡ a
unfolding marked
bit_0 true true true = refl
bit_0 true true false = refl
bit_0 true false true = refl
bit_0 true false false = refl
bit_0 false true true = refl
bit_0 false true false = refl
bit_0 false false true = refl
bit_0 false false false = refl

bit_1 : (a b c : Bool) → eqb (marked a b c / 2 % 2) 0 ≡ b
unfolding marked
bit_1 true true true = refl
bit_1 true true false = refl
bit_1 true false true = refl
bit_1 true false false = refl
bit_1 false true true = refl
bit_1 false true false = refl
bit_1 false false true = refl
bit_1 false false false = refl

bit_2 : (a b c : Bool) → eqb (marked a b c / 4 % 2) 0 ≡ c
unfolding marked
bit_2 true true true = refl
bit_2 true true false = refl
bit_2 true false true = refl
bit_2 true false false = refl
bit_2 false true true = refl
bit_2 false true false = refl
bit_2 false false true = refl
bit_2 false false false = refl

module _ (m : Mesh) (i f : ℕ) (t : Tri) (h : f ≡ wall_mark m (new_live i (tri t))) where
  told : f ≡ marked (shared_by_tris m (key t.n0 t.n1)) (shared_by_tris m (key t.n1 t.n2)) (shared_by_tris m (key t.n2 t.n0))
  unfolding marked
  told = h ∙ mark_is m i t

  pub shared_0 : eqb (f % 2) 0 ≡ shared_by_tris m (key t.n0 t.n1)
  shared_0 = ap (λ (j : ℕ). eqb (j % 2) 0) told ∙ bit_0 (shared_by_tris m (key t.n0 t.n1)) (shared_by_tris m (key t.n1 t.n2)) (shared_by_tris m (key t.n2 t.n0))

  pub shared_1 : eqb (f / 2 % 2) 0 ≡ shared_by_tris m (key t.n1 t.n2)
  shared_1 = ap (λ (j : ℕ). eqb (j / 2 % 2) 0) told ∙ bit_1 (shared_by_tris m (key t.n0 t.n1)) (shared_by_tris m (key t.n1 t.n2)) (shared_by_tris m (key t.n2 t.n0))

  pub shared_2 : eqb (f / 4 % 2) 0 ≡ shared_by_tris m (key t.n2 t.n0)
  shared_2 = ap (λ (j : ℕ). eqb (j / 4 % 2) 0) told ∙ bit_2 (shared_by_tris m (key t.n0 t.n1)) (shared_by_tris m (key t.n1 t.n2)) (shared_by_tris m (key t.n2 t.n0))

  -- without a wall
  pub cell_clear : (a b : ℕ) → f ≡ 8 → true ≡ all (open_edge m a b) (tri_edges t)
  unfolding all tri_edges
  cell_clear a b e =
      let x = open_shared m a b (key t.n0 t.n1) (ap (λ (j : ℕ). eqb (j % 2) 0) (sym e) ∙ shared_0) in
      let y = open_shared m a b (key t.n1 t.n2) (ap (λ (j : ℕ). eqb (j / 2 % 2) 0) (sym e) ∙ shared_1) in
      let z = open_shared m a b (key t.n2 t.n0) (ap (λ (j : ℕ). eqb (j / 4 % 2) 0) (sym e) ∙ shared_2) in
      rw (← x, ← y, ← z)

module _ (m : Mesh) (a b : ℕ) (t : Tri) where
  pub cell_0 : false ≡ open_edge m a b (key t.n0 t.n1) → false ≡ all (open_edge m a b) (tri_edges t)
  unfolding all tri_edges
  cell_0 h = rw (← h)

  pub cell_1 : true ≡ open_edge m a b (key t.n0 t.n1) → false ≡ open_edge m a b (key t.n1 t.n2) → false ≡ all (open_edge m a b) (tri_edges t)
  unfolding all tri_edges
  cell_1 h k = rw (← h, ← k)

  pub cell_2 : (x : Bool) → true ≡ open_edge m a b (key t.n0 t.n1) → true ≡ open_edge m a b (key t.n1 t.n2) → x ≡ open_edge m a b (key t.n2 t.n0)
      → x ≡ all (open_edge m a b) (tri_edges t)
  unfolding all tri_edges
  cell_2 x h k l = rw (← h, ← k, ← l) (sym (and-true x))

-- ---- the region

all_append : {A : Type 0} (f : A → Bool) (l k : List A) → all f (l ++ k) ≡ (all f l && all f k)
unfolding all
all_append f [] k = refl
all_append f (x ∷ l) k = go (f x) (all_append f l k)
  where
    go : (c : Bool) → all f (l ++ k) ≡ (all f l && all f k) → (c && all f (l ++ k)) ≡ ((c && all f l) && all f k)
    go true r = r
    go false r = refl

-- the walls alone, or all edges by the longer test
all_walls : (m : Mesh) (a b : ℕ) (l : List Edge) → all (passes_by m a b) (filter (λ e. not (shared_by_tris m e)) l) ≡ all (open_edge m a b) l
unfolding all filter open_edge
all_walls m a b [] = refl
all_walls m a b (e ∷ l) = go (shared_by_tris m e) refl (all_walls m a b l)
  where
    go : (c : Bool) → shared_by_tris m e ≡ c → all (passes_by m a b) (filter (λ d. not (shared_by_tris m d)) l) ≡ all (open_edge m a b) l
        → all (passes_by m a b) (filter (λ d. not (shared_by_tris m d)) (e ∷ l)) ≡ all (open_edge m a b) (e ∷ l)
    go true q r = rw q r
    go false q r = rw q (ap (λ (c : Bool). passes_by m a b e && c) r)

all_cells : (m : Mesh) (a b : ℕ) (region : List Live) → all (open_edge m a b) (flat_map (λ x. edges x.cell) region) ≡ all (open_cell m a b) region
unfolding all flat_map
all_cells m a b [] = refl
all_cells m a b (x ∷ l) = all_append (open_edge m a b) (edges x.cell) (flat_map (λ y. edges y.cell) l) ∙ ap (λ (c : Bool). all (open_edge m a b) (edges x.cell) && c) (all_cells m a b l)

pub inside_cells : (m : Mesh) (a b : ℕ) (region : List Live) → segment_inside m a b (walls m region) ≡ all (open_cell m a b) region
unfolding segment_inside walls
inside_cells m a b region = all_walls m a b (flat_map (λ x. edges x.cell) region) ∙ all_cells m a b region

-- ---- nodes of a triangle

left_first : (a b c : Bool) → (a || (b || (c || false))) ≡ ((a || b) || c)
left_first true b c = refl
left_first false true c = refl
left_first false false c = or-false c

pub has_tri : (i : ℕ) (t : Tri) (v : ℕ) → has_node v (new_live i (tri t)) ≡ tri_has t v
unfolding has_node contains any nodes tri_nodes tri_has new_live
has_tri i t v = rw (eqb_swap v t.n0, eqb_swap v t.n1, eqb_swap v t.n2) (left_first (eqb t.n0 v) (eqb t.n1 v) (eqb t.n2 v))

-- ---- small facts of nodes as they were read

pub below_of : (u v : ℕ) → v ≤ u → (u ≡ v → ⊥) → v < u
below_of u v h n = go (decide u v)
  where
    go : Same u v → v < u
    go (same e) = absurd (n e)
    go (differ e) = omega arith

pub ends_are : (m : Mesh) (u v a b : ℕ) → u ≡ a → v ≡ b → a < length m.points → b < length m.points → Ends m u v
ends_are m u v a b e f h k = record { first = omega arith; second = omega arith }
