-- A quad in place of a region keeps a mesh valid, and its triangles are those that stay.
use Rattle.std.specs.Prelude.{◌≡◌, ◌<◌, ◌∷◌, ◌++◌}
use Rattle.laws.specs.Kit.{refl, sym, ◌∙◌, ap, subst, inl, inr, suc, arith, List, [], append-nil, length}
use Rattle.definition.specs.Lists.{flat_map}
use Rattle.definition.specs.Cells.{Tri, Quad, quad, Live, Mesh, new_live, tri_of, tris_of, with_live, noting, without_all, remove_cells, push_cell}
use Rattle.definition.specs.Attempt.{replaced}
use Rattle.laws.specs.Lists.{In, in_either, in_filter}
use Rattle.account.specs.Valid.{GoodTri, GoodQuad, Valid}
use Rattle.account.proofs.Valid.{slots_filter, slots_last, tris_in, in_tris, tris_append}

module _ (m : Mesh) (q : Quad) (cells : List Live) where
  -- the cells that stay
  abbrev pub remaining : List Live
  remaining = without_all cells m.live

  -- the quad comes last
  pub replaced_live : (replaced m q cells).live ≡ remaining ++ (new_live m.used (quad q) ∷ [])
  unfolding replaced push_cell remove_cells with_live noting
  replaced_live = refl

  -- it takes a slot
  pub replaced_used : (replaced m q cells).used ≡ suc m.used
  unfolding replaced push_cell remove_cells with_live noting
  replaced_used = refl

  -- the points stay
  pub replaced_points : (replaced m q cells).points ≡ m.points
  unfolding replaced push_cell remove_cells with_live noting
  replaced_points = refl

  pub in_remaining : (x : Live) → In x remaining → In x m.live
  unfolding without_all
  in_remaining x i = (in_filter _ m.live i).0

  -- the quad adds no triangle
  pub quad_tris : tris_of (replaced m q cells).live ≡ tris_of remaining
  unfolding new_live tris_of flat_map tri_of
  quad_tris = ap tris_of replaced_live ∙ tris_append remaining (new_live m.used (quad q) ∷ []) ∙ append-nil (tris_of remaining)

  -- the triangles that stay are good
  pub remaining_good : Valid m → (t : Tri) → In t (tris_of remaining) → GoodTri (length m.points) t
  remaining_good ok t i = let z = in_tris remaining t i in ok.tris t (tris_in m.live z.0 t (in_remaining z.0 z.1) z.2)

  -- the mesh stays valid
  pub quad_valid : Valid m → GoodQuad (length m.points) q → Valid (replaced m q cells)
  unfolding replaced push_cell remove_cells with_live noting new_live without_all
  quad_valid ok good =
      let new = new_live m.used (quad q) in
      let below : (z : Live) → In z remaining → z.slot < m.used = λ z i. ok.given z (in_remaining z i) in
      record {
        slots = slots_last remaining new (slots_filter _ m.live ok.slots) (λ z i e. let l = below z i in omega arith);
        given = λ z i. elim (in_either z remaining (new ∷ []) i) [ inl j ↦ let l = below z j in omega arith | inr (inl f) ↦ let g : z.slot ≡ m.used = ap (λ l. l.slot) f in omega arith | inr (inr x'') ↦ elim x'' [ ] ];
        tris = λ t i. remaining_good ok t (subst (λ l. In t l) quad_tris i);
        quads = λ z p i c. elim (in_either z remaining (new ∷ []) i) [
          | inl j ↦ ok.quads z p (in_remaining z j) c
          | inr (inl f) ↦ let e : quad p ≡ quad q = sym c ∙ ap (λ l. l.cell) f in let g : p ≡ q = cc in subst (λ r. GoodQuad (length m.points) r) (sym g) good
          | inr (inr x'') ↦ elim x'' [ ]
        ];
      }
