-- The mesh that a memory stands for is valid in the account's sense, and a given triangle has a cell's shape.
use Rattle.std.specs.Prelude.{◌≡◌, ◌≢◌, ◌+◌, ◌*◌, ◌<◌, ◌∷◌}
use Rattle.laws.specs.Kit.{sym, ◌∙◌, ap, subst, inl, inr, ℕ, List, [], length, get_or}
use Rattle.rings.specs.Rings as rings
use Rattle.definition.specs.Cells.{Tri, Quad, Cell, tri, quad, Live, Mesh, new_tri, nodes, tri_nodes, quad_nodes}
use Rattle.definition.specs.Call.{tri_at}
use Rattle.laws.specs.Lists.{In}
use Rattle.account.specs.Triangles as triangles
use Rattle.account.specs.Valid.{Slots, GoodQuad, Valid}
use Rattle.account.proofs.Valid.{in_tris}
use Rattle.cells.specs.Rep.{Shape, Held, slots, Rep}
use Rattle.cells.proofs.Slots.{rep_held, in_has}

-- ---- the mesh of a memory is valid

slots_of : (l : List Live) → rings.Distinct (slots l) → Slots l
slots_of [] h = tt
slots_of (x ∷ l) h = (λ y i. out l h.0 y i, slots_of l h.1)
  where
    out : (k : List Live) → rings.Out x.slot (slots k) → (y : Live) → In y k → x.slot ≢ y.slot
    out [] o y x5 q = elim x5 [ ]
    out (z ∷ k) o y (inl e) q = o.0 (sym (ap (λ (t : Live). t.slot) e) ∙ sym q)
    out (z ∷ k) o y (inr i) q = out k o.1 y i q

pub tri_distinct : (n : ℕ) (t : Tri) → Shape n (tri t) → triangles.Distinct t
unfolding nodes tri_nodes
tri_distinct n t h = record { d01 = λ e. h.distinct.0.0 (sym e); d12 = λ e. h.distinct.1.0.0 (sym e); d20 = h.distinct.0.1.0 }

pub tri_below : (n : ℕ) (t : Tri) → Shape n (tri t) → (a : ℕ) → triangles.Has t a → a < n
unfolding nodes tri_nodes
tri_below n t h a (inl e) = rw e h.known.0
tri_below n t h a (inr (inl e)) = rw e h.known.1.0
tri_below n t h a (inr (inr e)) = rw e h.known.1.1.0

quad_good : (n : ℕ) (q : Quad) → Shape n (quad q) → GoodQuad n q
unfolding nodes quad_nodes
quad_good n q h =
    let d = h.distinct in
    record {
      distinct = (
        (λ e. d.0.0 (sym e), (λ e. d.0.1.0 (sym e), (λ e. d.0.1.1.0 (sym e), tt))),
        ((λ e. d.1.0.0 (sym e), (λ e. d.1.0.1.0 (sym e), tt)), ((λ e. d.1.1.0.0 (sym e), tt), (tt, tt))),
      );
      below = (h.known.0, (h.known.1.0, (h.known.1.1.0, (h.known.1.1.1.0, tt))));
    }

pub valid : (w : List ℕ) (s p : ℕ) (m : Mesh) → Rep w s p m → Valid m
valid w s p m r =
    let n = length m.points in
    let held : (x : Live) → In x m.live → Held w s m.used n x = λ x i. rep_held w s p m r (in_has x m.live i) in
    let shape : (x : Live) (c : Cell) → In x m.live → x.cell ≡ c → Shape n c = λ x c i e. subst (λ (d : Cell). Shape n d) e (held x i).shape in
    record {
      slots = slots_of m.live r.distinct;
      given = λ x i. (held x i).inside;
      tris = λ t i. let g = in_tris m.live t i in let h = shape g.0 (tri t) g.1 g.2 in record { distinct = tri_distinct n t h; below = tri_below n t h };
      quads = λ x q i e. quad_good n q (shape x (quad q) i e);
    }

-- ---- a given triangle

-- three different nodes among the given points
pub shape_at : (ts : List ℕ) (g i : ℕ) → get_or ts (3 * i) 0 ≢ get_or ts (3 * i + 1) 0 → get_or ts (3 * i) 0 ≢ get_or ts (3 * i + 2) 0 → get_or ts (3 * i + 1) 0 ≢ get_or ts (3 * i + 2) 0
    → get_or ts (3 * i) 0 < g → get_or ts (3 * i + 1) 0 < g → get_or ts (3 * i + 2) 0 < g → Shape g (tri (tri_at ts i))
unfolding nodes tri_nodes tri_at new_tri
shape_at ts g i d01 d02 d12 a b c =
    record {
      distinct = ((λ e. d01 (sym e), (λ e. d02 (sym e), tt)), ((λ e. d12 (sym e), tt), (tt, tt)));
      known = (a, (b, (c, tt)));
    }
