-- The edges of the mesh: each is the key of two nodes of a live cell, and an edge that a cell has is one of its edges.
use Rattle.std.specs.Prelude.{◌≡◌, ◌≢◌, ◌&&◌, ◌||◌, ◌<◌}
use Rattle.laws.specs.Kit.{refl, sym, ◌∙◌, ap, subst, inl, inr, Bool, true, false, ℕ, arith, eqb, eq-eqb, List, length}
use Rattle.definition.specs.Plane.{Edge}
use Rattle.definition.specs.Lists.{any}
use Rattle.definition.specs.Cells.{Tri, Quad, Cell, tri, quad, Mesh, nodes, quad_nodes, key, edges, tri_edges, quad_edges, same_edge, tri_has, has_side, has_edge_in, has_edge, owns, all_edges}
use Rattle.laws.specs.Bools.{and_left, and_right}
use Rattle.laws.specs.Cells.{same_self, same_is}
use Rattle.laws.specs.Lists.{In, in_any, any_in, in_flat_map, flat_map_in}
use Rattle.cells.specs.Rep.{Shape, Rep}
use Rattle.cells.proofs.Edges.{key_up, key_down, tri_side}
use Rattle.cells.proofs.Slots.{rep_held, in_has}
use Rattle.crossings.proofs.Tris.{TriOk, tri_ok, Which, is0, is1, is2, which}

-- ---- an edge among others

edge_listed : (e : Edge) (l : List Edge) → In e l → any (same_edge e) l ≡ true
edge_listed e l i = in_any (same_edge e) l (e, i, same_self e)

listed_edge : (e : Edge) (l : List Edge) → any (same_edge e) l ≡ true → In e l
listed_edge e l h = let r = any_in (same_edge e) l h in subst (λ (f : Edge). In f l) (sym (same_is e r.0 r.2)) r.1

-- ---- an edge of a cell

-- its smaller node first, its nodes below n, and the cell has it
pub record Side (n : ℕ) (c : Cell) (e : Edge) : Type 0 where
  pub up : e.0 < e.1
  pub known : e.1 < n
  pub has : has_side e c ≡ true

key_above : (x y : ℕ) → x ≢ y → (key x y).0 < (key x y).1
unfolding key
key_above x y h = omega arith

key_below : (n x y : ℕ) → x < n → y < n → (key x y).1 < n
unfolding key
key_below n x y h g = omega arith

mid : (a b : Bool) → (a || true || b) ≡ true
mid true b = refl
mid false b = refl

last : (a b : Bool) → (a || b || true) ≡ true
last true b = refl
last false true = refl
last false false = refl

module _ (t : Tri) where
  has0 : tri_has t t.n0 ≡ true
  unfolding tri_has
  has0 = rw (eq-eqb t.n0 t.n0 refl)

  has1 : tri_has t t.n1 ≡ true
  unfolding tri_has
  has1 = rw (eq-eqb t.n1 t.n1 refl) (mid (eqb t.n0 t.n1) (eqb t.n2 t.n1))

  has2 : tri_has t t.n2 ≡ true
  unfolding tri_has
  has2 = rw (eq-eqb t.n2 t.n2 refl) (last (eqb t.n0 t.n2) (eqb t.n1 t.n2))

  tri_key : (n x y : ℕ) (e : Edge) → e ≡ key x y → tri_has t x ≡ true → tri_has t y ≡ true → x ≢ y → x < n → y < n → Side n (tri t) e
  tri_key n x y e q f g d h k =
      subst (λ (z : Edge). Side n (tri t) z) (sym q) (record { up = key_above x y d; known = key_below n x y h k; has = tri_side t x y ∙ (rw (f, g)) })

  tri_edge : (n : ℕ) → TriOk n t.n0 t.n1 t.n2 → (e : Edge) → In e (tri_edges t) → Side n (tri t) e
  unfolding tri_edges
  tri_edge n o e (inl q) = tri_key n t.n0 t.n1 e q has0 has1 o.ab o.a_known o.b_known
  tri_edge n o e (inr (inl q)) = tri_key n t.n1 t.n2 e q has1 has2 o.bc o.b_known o.c_known
  tri_edge n o e (inr (inr (inl q))) = tri_key n t.n2 t.n0 e q has2 has0 o.ca o.c_known o.a_known
  tri_edge n o e (inr (inr (inr h))) = absurd h

module _ (n : ℕ) (q : Quad) (e : Edge) where
  quad_key : (x y : ℕ) → e ≡ key x y → In e (quad_edges q) → x ≢ y → x < n → y < n → Side n (quad q) e
  unfolding has_side has_edge_in
  quad_key x y z i d h k =
      record {
        up = subst (λ (f : Edge). f.0 < f.1) (sym z) (key_above x y d);
        known = subst (λ (f : Edge). f.1 < n) (sym z) (key_below n x y h k);
        has = edge_listed e (quad_edges q) i;
      }

  quad_edge : Shape n (quad q) → In e (quad_edges q) → Side n (quad q) e
  unfolding nodes quad_nodes quad_edges
  quad_edge s (inl z) = quad_key q.n0 q.n1 z (inl z) (λ f. s.distinct.0.0 (sym f)) s.known.0 s.known.1.0
  quad_edge s (inr (inl z)) =
      quad_key q.n1 q.n2 z (inr (inl z)) (λ f. s.distinct.1.0.0 (sym f)) s.known.1.0 s.known.1.1.0
  quad_edge s (inr (inr (inl z))) =
      quad_key q.n2 q.n3 z (inr (inr (inl z))) (λ f. s.distinct.1.1.0.0 (sym f)) s.known.1.1.0 s.known.1.1.1.0
  quad_edge s (inr (inr (inr (inl z)))) =
      quad_key q.n3 q.n0 z (inr (inr (inr (inl z)))) s.distinct.0.1.1.0 s.known.1.1.1.0 s.known.0
  quad_edge s (inr (inr (inr (inr h)))) = absurd h

cell_edge : (n : ℕ) (c : Cell) → Shape n c → (e : Edge) → In e (edges c) → Side n c e
unfolding edges
cell_edge n (tri t) s e h = tri_edge t n (tri_ok n t s) e h
cell_edge n (quad q) s e h = quad_edge n q e s h

module _ (a b : ℕ) (up : a < b) where
  forth : (x y : ℕ) → x ≡ a → y ≡ b → (a, b) ≡ key x y
  forth x y e f = rw (e, f) (sym (key_up a b up))

  back : (x y : ℕ) → x ≡ b → y ≡ a → (a, b) ≡ key x y
  back x y e f = rw (e, f) (sym (key_down b a up))

  edge_tri : (t : Tri) → Which t a → Which t b → In (a, b) (tri_edges t)
  unfolding tri_edges
  edge_tri t (is0 e) (is0 f) = absurd (omega arith)
  edge_tri t (is0 e) (is1 f) = inl (forth t.n0 t.n1 e f)
  edge_tri t (is0 e) (is2 f) = inr (inr (inl (back t.n2 t.n0 f e)))
  edge_tri t (is1 e) (is0 f) = inl (back t.n0 t.n1 f e)
  edge_tri t (is1 e) (is1 f) = absurd (omega arith)
  edge_tri t (is1 e) (is2 f) = inr (inl (forth t.n1 t.n2 e f))
  edge_tri t (is2 e) (is0 f) = inr (inr (inl (forth t.n2 t.n0 e f)))
  edge_tri t (is2 e) (is1 f) = inr (inl (back t.n1 t.n2 f e))
  edge_tri t (is2 e) (is2 f) = absurd (omega arith)

  edge_quad : (q : Quad) → has_side (key a b) (quad q) ≡ true → In (a, b) (quad_edges q)
  unfolding has_side has_edge_in
  edge_quad q k = subst (λ (e : Edge). In e (quad_edges q)) (key_up a b up) (listed_edge (key a b) (quad_edges q) k)

  edge_cell : (c : Cell) → has_side (key a b) c ≡ true → In (a, b) (edges c)
  unfolding edges
  edge_cell (tri t) h =
      let z : (tri_has t a && tri_has t b) ≡ true = sym (tri_side t a b) ∙ h in
      edge_tri t (which t a (and_left (tri_has t a) (tri_has t b) z)) (which t b (and_right (tri_has t a) (tri_has t b) z))
  edge_cell (quad q) h = edge_quad q h

-- ---- the edges of the mesh

-- what is known of an edge of the mesh
pub record Edged (m : Mesh) (e : Edge) : Type 0 where
  pub up : e.0 < e.1
  pub known : e.1 < length m.points
  pub has : has_edge m e.0 e.1 ≡ true

pub edge_of : (w : List ℕ) (s p : ℕ) (m : Mesh) → Rep w s p m → (e : Edge) → In e (all_edges m) → Edged m e
unfolding all_edges has_edge owns
edge_of w s p m r e h =
    let o = in_flat_map (λ x. edges x.cell) e m.live h in
    let k = cell_edge (length m.points) o.0.cell (rep_held w s p m r (in_has o.0 m.live o.1)).shape e o.2 in
    record {
      up = k.up;
      known = k.known;
      has = in_any (owns (key e.0 e.1)) m.live (o.0, o.1, ap (λ (f : Edge). has_side f o.0.cell) (key_up e.0 e.1 k.up) ∙ k.has);
    }

pub edge_in : (m : Mesh) (a b : ℕ) → a < b → has_edge m a b ≡ true → In (a, b) (all_edges m)
unfolding all_edges has_edge owns
edge_in m a b up h =
    let o = any_in (owns (key a b)) m.live h in
    flat_map_in (λ x. edges x.cell) o.0 (a, b) m.live o.1 (edge_cell a b up o.0.cell o.2)

-- a node beside another is a node of the mesh
pub edge_known : (w : List ℕ) (s p : ℕ) (m : Mesh) → Rep w s p m → (a b : ℕ) → a < b → has_edge m a b ≡ true → b < length m.points
edge_known w s p m r a b up h = (edge_of w s p m r (a, b) (edge_in m a b up h)).known
