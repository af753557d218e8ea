-- Of the edges after a flip only the new diagonal is new.
use Rattle.std.specs.Prelude.{◌≡◌, ◌⊎◌, ◌<◌, ◌∷◌, ◌++◌}
use Rattle.laws.specs.Kit.{sym, ◌∙◌, ap, subst, inl, inr, ℕ, arith, List, []}
use Rattle.definition.specs.Plane.{Edge}
use Rattle.definition.specs.Cells.{Tri, Live, Mesh, all_edges}
use Rattle.definition.specs.Flips.{third}
use Rattle.laws.specs.Lists.{In}
use Rattle.account.specs.Triangles.{Has, Corners}
use Rattle.account.proofs.Triangles.{has_at}
use Rattle.account.specs.Flips.{Flipped}
use Rattle.account.proofs.Ends.{tri_owns, owns_tri}
use Rattle.account.specs.Valid.{Valid}
use Rattle.account.proofs.FlipKeeps.{own_x, own_y, third_s, third_t, New, new_cells, kept, turned_x, turned_y}
use Rattle.account.specs.Locked.{Owned}

module _ (m : Mesh) (e : Edge) (m' : Mesh) (ok : Valid m) (at : In e (all_edges m)) (w : Flipped m e m') (f : Edge) (order : f.0 < f.1)
    (below_s : f.0 < third w.s e) (below_t : f.0 < third w.t e) where
  -- the first owner had the edge
  of_s : Has w.s f.0 → Has w.s f.1 → Owned m f
  of_s h g = record { x = w.x; at = (own_x m e m' ok at w).0; has = owns_tri f w.x w.s w.cell_x h g }

  -- the second
  of_t : Has w.t f.0 → Has w.t f.1 → Owned m f
  of_t h g = record { x = w.y; at = (own_y m e m' ok at w).0; has = owns_tri f w.y w.t w.cell_y h g }

  -- a new triangle has an end z of e and both third nodes; the edge, below these, leads from z to one of them
  sides : (z : ℕ) → Has w.s z → Has w.t z → (f.0 ≡ third w.s e) ⊎ (f.0 ≡ z) ⊎ (f.0 ≡ third w.t e)
      → (f.1 ≡ third w.s e) ⊎ (f.1 ≡ z) ⊎ (f.1 ≡ third w.t e) → Owned m f
  sides z hs ht (inl a) b = absurd (omega arith)
  sides z hs ht (inr (inr a)) b = absurd (omega arith)
  sides z hs ht (inr (inl a)) (inl b) = of_s (has_at w.s z f.0 (sym a) hs) (has_at w.s (third w.s e) f.1 (sym b) (third_s m e m' ok at w).nodes.has2)
  sides z hs ht (inr (inl a)) (inr (inl b)) = absurd (omega arith)
  sides z hs ht (inr (inl a)) (inr (inr b)) = of_t (has_at w.t z f.0 (sym a) ht) (has_at w.t (third w.t e) f.1 (sym b) (third_t m e m' ok at w).nodes.has2)

  -- turned about
  about : {A B C : Type 0} → A ⊎ B ⊎ C → C ⊎ B ⊎ A
  about (inl a) = inr (inr a)
  about (inr (inl b)) = inr (inl b)
  about (inr (inr c)) = inl c

  of_new : (o : Owned m' f) → New m e m' ok at w o.x → Owned m f
  of_new o (kept i) = record { x = o.x; at = i; has = o.has }
  of_new o (turned_x c) =
      let h = tri_owns f o.x w.s' c o.has in
      let k = w.corners_s in
      sides e.0 (third_s m e m' ok at w).nodes.has0 (third_t m e m' ok at w).nodes.has0 (k.is f.0 h.0) (k.is f.1 h.1)
  of_new o (turned_y c) =
      let h = tri_owns f o.x w.t' c o.has in
      let k = w.corners_t in
      sides e.1 (third_s m e m' ok at w).nodes.has1 (third_t m e m' ok at w).nodes.has1 (about (k.is f.0 h.0)) (about (k.is f.1 h.1))

  -- an edge below both ends of the new diagonal was there before
  pub edge_old : Owned m' f → Owned m f
  edge_old o = of_new o (new_cells m e m' ok at w o.x o.at)
