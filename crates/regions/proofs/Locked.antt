-- The locked edges of a region: edge after edge of a triangle, cell after cell of the list.
use Rattle.std.specs.Prelude.{◌≡◌, ◌&&◌}
use Rattle.laws.specs.Kit.{refl, sym, ◌∙◌, Bool, true, false, not, ℕ}
use mathlib.Core.Bool.{or-false, and-true}
use Rattle.definition.specs.Lists.{all}
use Rattle.definition.specs.Plane.{Edge}
use Rattle.definition.specs.Cells.{Tri, Quad, tri, Live, Mesh, key, edges, tri_edges, quad_edges, has_edge_in, is_locked, new_live}
use Rattle.definition.specs.Region.{may_go}
use Rattle.laws.specs.Bools.{or_second}
use Rattle.regions.specs.Flood.{tri_live}

-- ---- an edge

module _ (m : Mesh) (q : Quad) (e : Edge) (x : Bool) (l : x ≡ m.locked e) where
  pub go_free : x ≡ false → true ≡ may_go m q e
  unfolding may_go is_locked
  go_free h = sym (or_second (has_edge_in (quad_edges q) e) (not (m.locked e)) (rw (sym l ∙ h)))

  pub go_side : x ≡ true → (r : Bool) → r ≡ has_edge_in (quad_edges q) e → r ≡ may_go m q e
  unfolding may_go is_locked
  go_side h r k = k ∙ sym (rw (sym l ∙ h) (or-false (has_edge_in (quad_edges q) e)))

-- ---- the edges of a triangle, with the nodes as they were read

module _ (m : Mesh) (q : Quad) (t : Tri) (x y z : ℕ) (ex : x ≡ t.n0) (ey : y ≡ t.n1) (ez : z ≡ t.n2) where
  three_edges : all (may_go m q) (edges (tri t)) ≡ (may_go m q (key x y) && (may_go m q (key y z) && (may_go m q (key z x) && true)))
  unfolding all edges tri_edges
  three_edges = rw (ex, ey, ez)

  module _ (r0 : Bool) (e0 : r0 ≡ may_go m q (key x y)) where
    pub first_stays : r0 ≡ false → false ≡ all (may_go m q) (edges (tri t))
    first_stays h = rw (three_edges, sym e0 ∙ h)

    module _ (h0 : r0 ≡ true) (r1 : Bool) (e1 : r1 ≡ may_go m q (key y z)) where
      pub second_stays : r1 ≡ false → false ≡ all (may_go m q) (edges (tri t))
      second_stays h = rw (three_edges, sym e0 ∙ h0, sym e1 ∙ h)

      pub third_goes : r1 ≡ true → (r2 : Bool) → r2 ≡ may_go m q (key z x) → r2 ≡ all (may_go m q) (edges (tri t))
      third_goes h r2 e2 = rw (three_edges, sym e0 ∙ h0, sym e1 ∙ h) (e2 ∙ sym (and-true (may_go m q (key z x))))

-- ---- a cell of the list

-- every edge of the cell may go
abbrev pub spared : Mesh → Quad → Live → Bool
spared m q x = all (may_go m q) (edges x.cell)

pub spared_is : (m : Mesh) (q : Quad) (i : ℕ) (t : Tri) → spared m q (tri_live i t) ≡ all (may_go m q) (edges (tri t))
unfolding new_live
spared_is m q i t = refl
