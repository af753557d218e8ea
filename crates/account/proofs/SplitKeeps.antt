-- A split keeps a mesh valid and, where all components were even, even.
use Rattle.std.specs.Prelude.{◌≡◌, ◌≢◌, ◌<◌, ◌∷◌, ◌++◌}
use Rattle.laws.specs.Kit.{refl, sym, ◌∙◌, ap, subst, inl, inr, ℕ, suc, arith, List, [], append_assoc, length, length-append}
use Rattle.definition.specs.Lists.{flat_map}
use Rattle.definition.specs.Plane.{Node}
use Rattle.definition.specs.Cells.{Tri, tri, Live, Mesh, new_tri, new_live, tri_of, tris_of, with_live, noting, without, set_cell, push_cell}
use Rattle.definition.specs.Insertion.{with_point, split_triangle}
use Rattle.definition.specs.Account.{Rearranged}
use Rattle.laws.specs.Lists.{In, in_either}
use Rattle.account.proofs.Rearranged.{number}
use Rattle.account.specs.Triangles.{Has}
use Rattle.account.proofs.Triangles.{corners, own_corners}
use Rattle.account.specs.Even.{AllEven}
use Rattle.account.proofs.Even.{same_even, split_even}
use Rattle.account.specs.Valid.{GoodTri, GoodQuad, Valid, Kept}
use Rattle.account.proofs.Valid.{slots_filter, slots_last, in_without, taken_out, quad_more, good_as, not_both, tris_in, in_tris, tris_append}

module _ (m : Mesh) (x : Live) (t : Tri) (p : Node) (ok : Valid m) (at : In x m.live) (cell : x.cell ≡ tri t) where
  -- the other cells
  unfoldable pub left : List Live
  left = without x.slot m.live

  -- the number of the new point
  unfoldable pub new_node : ℕ
  new_node = length m.points

  -- the three parts
  unfoldable pub t1 : Tri
  t1 = new_tri t.n0 t.n1 new_node

  unfoldable pub t2 : Tri
  t2 = new_tri t.n1 t.n2 new_node

  unfoldable pub t3 : Tri
  t3 = new_tri t.n2 t.n0 new_node

  -- in their slots
  unfoldable pub l1 : Live
  l1 = new_live x.slot (tri t1)

  unfoldable pub l2 : Live
  l2 = new_live m.used (tri t2)

  unfoldable pub l3 : Live
  l3 = new_live (suc m.used) (tri t3)

  -- the cells after
  pub split_live : (split_triangle m x.slot t p).live ≡ ((left ++ (l1 ∷ [])) ++ (l2 ∷ [])) ++ (l3 ∷ [])
  unfolding left l1 l2 l3 t1 t2 t3 new_node split_triangle push_cell set_cell with_live noting with_point
  split_live = refl

  -- the triangles after
  pub split_tris : tris_of (split_triangle m x.slot t p).live ≡ tris_of left ++ (t1 ∷ t2 ∷ t3 ∷ [])
  unfolding l1 l2 l3 new_live tris_of flat_map tri_of
  split_tris =
      ap tris_of split_live ∙ tris_append ((left ++ (l1 ∷ [])) ++ (l2 ∷ [])) (l3 ∷ [])
      ∙ ap (λ l. l ++ (t3 ∷ [])) (tris_append (left ++ (l1 ∷ [])) (l2 ∷ []) ∙ ap (λ l. l ++ (t2 ∷ [])) (tris_append left (l1 ∷ [])))
      ∙ append_assoc (tris_of left ++ (t1 ∷ [])) (t2 ∷ []) (t3 ∷ []) ∙ append_assoc (tris_of left) (t1 ∷ []) (t2 ∷ t3 ∷ [])

  pub good : GoodTri (length m.points) t
  good = ok.tris t (tris_in m.live x t at cell)

  -- the new point is no node of it
  pub at_new : (a : ℕ) → Has t a → a ≢ new_node
  unfolding new_node
  at_new a h e = let l = good.below a h in omega arith

  -- the triangles before, the one that is split last
  pub old_split : Rearranged (tris_of m.live) (tris_of left ++ (t ∷ []))
  unfolding left tri_of
  old_split k = taken_out m.live x ok.slots at k ∙ ap (λ c. number k (tris_of (without x.slot m.live) ++ tri_of c)) cell

  split_keeps_even : AllEven (tris_of m.live) → AllEven (tris_of (split_triangle m x.slot t p).live)
  unfolding t1 t2 t3
  split_keeps_even h = subst (λ l. AllEven l) (sym split_tris)
      (split_even (tris_of left) t.n0 t.n1 t.n2 new_node t t1 t2 t3
      (own_corners t)
      (corners t.n0 t.n1 new_node) (corners t.n1 t.n2 new_node) (corners t.n2 t.n0 new_node)
      good.distinct.d01 (at_new t.n0 (inl refl)) (at_new t.n1 (inr (inl refl)))
      (same_even (tris_of m.live) (tris_of left ++ (t ∷ [])) old_split h))

  good_part : (a b : ℕ) → Has t a → Has t b → a ≢ b → GoodTri (suc (length m.points)) (new_tri a b new_node)
  unfolding new_node new_tri
  good_part a b h g n =
      let la = good.below a h in
      let lb = good.below b g in
      record {
        distinct = record { d01 = n; d12 = at_new b g; d20 = λ e. at_new a h (sym e) };
        below = λ c i. elim i [ inl e ↦ omega arith | inr (inl e) ↦ omega arith | inr (inr e) ↦ omega arith ];
      }

  split_valid : Valid (split_triangle m x.slot t p)
  unfolding left l1 l2 l3 t1 t2 t3 new_node new_live without split_triangle push_cell set_cell with_live noting with_point
  split_valid =
      let old : (z : Live) → In z left → In z m.live × (z.slot ≢ x.slot) = λ z i. in_without x.slot z m.live i in
      let lx = ok.given x at in
      let a1 = left ++ (l1 ∷ []) in
      let a2 = a1 ++ (l2 ∷ []) in
      let b1 : (z : Live) → In z a1 → z.slot < m.used =
      λ z i. elim (in_either z left (l1 ∷ []) i) [ inl j ↦ ok.given z (old z j).0 | inr (inl f) ↦ let g : z.slot ≡ x.slot = ap (λ l. l.slot) f in omega arith | inr (inr x3) ↦ elim x3 [ ] ] in
      let b2 : (z : Live) → In z a2 → z.slot < suc m.used =
      λ z i. elim (in_either z a1 (l2 ∷ []) i) [ inl j ↦ let l = b1 z j in omega arith | inr (inl f) ↦ let g : z.slot ≡ m.used = ap (λ l. l.slot) f in omega arith | inr (inr x3) ↦ elim x3 [ ] ] in
      let points : length (m.points ++ (p ∷ [])) ≡ suc (length m.points) = length-append m.points (p ∷ []) ∙ omega arith in
      record {
        slots =
            slots_last a2 l3
            (slots_last a1 l2 (slots_last left l1 (slots_filter _ m.live ok.slots) (λ z i. (old z i).1)) (λ z i e. let l = b1 z i in omega arith))
            (λ z i e. let l = b2 z i in omega arith);
        given = λ z i. elim (in_either z a2 (l3 ∷ []) i) [ inl j ↦ let l = b2 z j in omega arith | inr (inl f) ↦ let g : z.slot ≡ suc m.used = ap (λ l. l.slot) f in omega arith | inr (inr x3) ↦ elim x3 [ ] ];
        tris = λ r i. subst (λ n. GoodTri n r) (sym points) (elim (in_either r (tris_of left) (t1 ∷ t2 ∷ t3 ∷ []) (subst (λ l. In r l) split_tris i)) [
          | inl j ↦ let z = in_tris left r j in let g = ok.tris r (tris_in m.live z.0 r (old z.0 z.1).0 z.2) in record { distinct = g.distinct; below = λ c k. let l = g.below c k in omega arith }
          | inr (inl f) ↦ good_as _ r t1 f (good_part t.n0 t.n1 (inl refl) (inr (inl refl)) good.distinct.d01)
          | inr (inr (inl f)) ↦ good_as _ r t2 f (good_part t.n1 t.n2 (inr (inl refl)) (inr (inr refl)) good.distinct.d12)
          | inr (inr (inr (inl f))) ↦ good_as _ r t3 f (good_part t.n2 t.n0 (inr (inr refl)) (inl refl) good.distinct.d20)
          | inr (inr (inr (inr x5))) ↦ elim x5 [ ]
        ]);
        quads = λ z q i c. subst (λ n. GoodQuad n q) (sym points) (elim (in_either z a2 (l3 ∷ []) i) [
          | inl j ↦ elim (in_either z a1 (l2 ∷ []) j) [
            | inl k ↦ elim (in_either z left (l1 ∷ []) k) [
              | inl h ↦ quad_more _ _ q (omega arith) (ok.quads z q (old z h).0 c)
              | inr (inl f) ↦ not_both q t1 (sym c ∙ ap (λ l. l.cell) f)
              | inr (inr x5) ↦ elim x5 [ ]
            ]
            | inr (inl f) ↦ not_both q t2 (sym c ∙ ap (λ l. l.cell) f)
            | inr (inr x4) ↦ elim x4 [ ]
          ]
          | inr (inl f) ↦ not_both q t3 (sym c ∙ ap (λ l. l.cell) f)
          | inr (inr x3) ↦ elim x3 [ ]
        ]);
      }

  -- a split keeps the mesh valid, and even
  pub split_kept : Kept m (split_triangle m x.slot t p)
  split_kept = record { valid = split_valid; even = split_keeps_even }
