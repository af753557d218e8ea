-- A flip keeps a mesh valid and, where all components were even, even.
use Rattle.std.specs.Prelude.{◌≡◌, ◌≢◌, ◌⊎◌, ◌<◌, ◌∷◌, ◌++◌}
use Rattle.laws.specs.Kit.{refl, sym, ◌∙◌, ap, subst, inl, inr, true, ℕ, arith, List, [], append_assoc, length}
use Rattle.definition.specs.Lists.{flat_map}
use Rattle.definition.specs.Plane.{Edge}
use Rattle.definition.specs.Cells.{Tri, Quad, Cell, tri, quad, Live, Mesh, new_live, edges, owns, owners, all_edges, tri_of, tris_of, with_live, noting, without, set_cell}
use Rattle.definition.specs.Flips.{third, set_tris}
use Rattle.definition.specs.Account.{Rearranged}
use Rattle.laws.specs.Lists.{In, in_left, in_either, in_filter, filter_in, in_flat_map}
use Rattle.account.proofs.Rearranged.{number, number_append, number_cons}
use Rattle.account.specs.Triangles.{Has, Corners}
use Rattle.account.specs.Even.{AllEven}
use Rattle.account.proofs.Even.{same_even, flip_even}
use Rattle.account.specs.Flips.{Flipped}
use Rattle.account.specs.Ends.{Third}
use Rattle.account.proofs.Ends.{third_node, tri_ends, quad_side, tri_owns, owns_tri}
use Rattle.account.specs.Valid.{Slots, GoodTri, GoodQuad, Valid, Kept}
use Rattle.account.proofs.Valid.{slots_filter, slots_last, in_without, without_in, without_none, without_append, taken_out, good_as, not_both, tris_in, in_tris, tris_append}

module _ (m : Mesh) (e : Edge) (m' : Mesh) (ok : Valid m) (at : In e (all_edges m)) (w : Flipped m e m') where
  -- the two owners
  pub own_x : In w.x m.live × (owns e w.x ≡ true)
  unfolding owners
  own_x = in_filter (owns e) m.live (subst (λ l. In w.x l) (sym w.owned) (inl refl))

  pub own_y : In w.y m.live × (owns e w.y ≡ true)
  unfolding owners
  own_y = in_filter (owns e) m.live (subst (λ l. In w.y l) (sym w.owned) (inr (inl refl)))

  -- no other cell owns the edge
  pub owner : (z : Live) → In z m.live → owns e z ≡ true → (z ≡ w.x) ⊎ (z ≡ w.y)
  unfolding owners
  owner z i h = elim (subst (λ l. In z l) w.owned (filter_in (owns e) m.live i h)) [ inl f ↦ inl f | inr (inl f) ↦ inr f | inr (inr x'') ↦ elim x'' [ ] ]

  -- they have two slots
  pub two_slots : w.x.slot ≢ w.y.slot
  unfolding owners
  two_slots = let h : Slots (w.x ∷ w.y ∷ []) = subst (λ l. Slots l) w.owned (slots_filter (owns e) m.live ok.slots) in h.0 w.y (inl refl)

  good_s : GoodTri (length m.points) w.s
  good_s = ok.tris w.s (tris_in m.live w.x w.s own_x.0 w.cell_x)

  good_t : GoodTri (length m.points) w.t
  good_t = ok.tris w.t (tris_in m.live w.y w.t own_y.0 w.cell_y)

  two_in : (z : Live) (c : Cell) → In z m.live → z.cell ≡ c → In e (edges c) → e.0 < e.1
  unfolding edges owns
  two_in z (tri t) i c j = (tri_ends t e (ok.tris t (tris_in m.live z t i c)).distinct j).order
  two_in z (quad q) i c j =
      let h : owns e z ≡ true = rw c (quad_side q e j) in
      elim (owner z i h) [
        | inl f ↦ not_both q w.s (sym c ∙ ap (λ l. l.cell) f ∙ w.cell_x)
        | inr f ↦ not_both q w.t (sym c ∙ ap (λ l. l.cell) f ∙ w.cell_y)
      ]

  -- the edge has its smaller node first
  pub in_order : e.0 < e.1
  unfolding all_edges
  in_order = let r = in_flat_map (λ x. edges x.cell) e m.live at in two_in r.0 r.0.cell r.1 refl r.2

  two_nodes : e.0 ≢ e.1
  two_nodes f = let l = in_order in omega arith

  -- the third nodes
  pub third_s : Third w.s e.0 e.1 (third w.s e)
  third_s = let h = tri_owns e w.x w.s w.cell_x own_x.1 in third_node w.s e good_s.distinct two_nodes h.0 h.1

  pub third_t : Third w.t e.0 e.1 (third w.t e)
  third_t = let h = tri_owns e w.y w.t w.cell_y own_y.1 in third_node w.t e good_t.distinct two_nodes h.0 h.1

  -- the cells that are not flipped
  unfoldable pub others : List Live
  others = without w.y.slot (without w.x.slot m.live)

  -- the others are in other slots
  pub in_others : (z : Live) → In z others → In z m.live × (z.slot ≢ w.x.slot) × (z.slot ≢ w.y.slot)
  unfolding others
  in_others z i =
      let r = in_without w.y.slot z (without w.x.slot m.live) i in
      let r' = in_without w.x.slot z m.live r.0 in
      (r'.0, r'.1, r.1)

  -- their triangles
  unfoldable pub rest : List Tri
  rest = tris_of others

  -- no other triangle has the edge
  pub free : (r : Tri) → In r rest → Has r e.0 → Has r e.1 → ⊥
  unfolding rest
  free r i h g =
      let z = in_tris others r i in
      let o = in_others z.0 z.1 in
      elim (owner z.0 o.0 (owns_tri e z.0 r z.2 h g)) [ inl f ↦ o.1 (ap (λ l. l.slot) f) | inr f ↦ o.2 (ap (λ l. l.slot) f) ]

  one : (z : Live) (t : Tri) → z.cell ≡ tri t → tri_of z.cell ≡ t ∷ []
  unfolding tri_of
  one z t c = ap tri_of c

  -- the triangles before, those that are flipped last
  pub old_like : Rearranged (tris_of m.live) (rest ++ (w.s ∷ w.t ∷ []))
  unfolding rest others without
  old_like k =
      let w1 = without w.x.slot m.live in
      let a : number k (tris_of m.live) ≡ number k (tris_of w1 ++ (w.s ∷ [])) =
      taken_out m.live w.x ok.slots own_x.0 k ∙ ap (λ l. number k (tris_of w1 ++ l)) (one w.x w.s w.cell_x) in
      let b : number k (tris_of w1) ≡ number k (rest ++ (w.t ∷ [])) =
      taken_out w1 w.y (slots_filter _ m.live ok.slots) (without_in w.x.slot w.y m.live own_y.0 (λ f. two_slots (sym f))) k
      ∙ ap (λ l. number k (rest ++ l)) (one w.y w.t w.cell_y) in
      omega (arith, a, b, number_append k (tris_of w1) (w.s ∷ []), number_append k rest (w.t ∷ []), number_append k rest (w.s ∷ w.t ∷ []), number_cons k w.s (w.t ∷ []))

  x' : Live
  x' = new_live w.x.slot (tri w.s')

  y' : Live
  y' = new_live w.y.slot (tri w.t')

  new_live_list : m'.live ≡ (others ++ (x' ∷ [])) ++ (y' ∷ [])
  unfolding others x' y' set_tris set_cell with_live noting new_live
  new_live_list =
      let i = w.x.slot in
      let j = w.y.slot in
      let a : without j (without i m.live ++ (x' ∷ [])) ≡ without j (without i m.live) ++ without j (x' ∷ []) = without_append j (without i m.live) (x' ∷ []) in
      let b : without j (x' ∷ []) ≡ x' ∷ [] = without_none j (x' ∷ []) (λ z k f. elim k [ inl g ↦ two_slots (sym (ap (λ l. l.slot) g) ∙ f) | inr x'' ↦ elim x'' [ ] ]) in
      ap (λ n. n.live) w.after ∙ ap (λ l. l ++ (y' ∷ [])) (a ∙ ap (λ l. others ++ l) b)

  -- the triangles after
  pub new_tris : tris_of m'.live ≡ rest ++ (w.s' ∷ w.t' ∷ [])
  unfolding rest x' y' new_live tris_of flat_map tri_of
  new_tris =
      ap tris_of (new_live_list) ∙ tris_append (others ++ (x' ∷ [])) (y' ∷ []) ∙ ap (λ l. l ++ (w.t' ∷ [])) (tris_append others (x' ∷ [])) ∙ append_assoc rest
      (w.s' ∷ []) (w.t' ∷ [])

  -- a cell in another slot stays
  pub still_there : (z : Live) → In z m.live → z.slot ≢ w.x.slot → z.slot ≢ w.y.slot → In z m'.live
  unfolding others
  still_there z i f g =
      subst (λ l. In z l) (sym new_live_list)
      (in_left z (others ++ (x' ∷ [])) (y' ∷ []) (in_left z others (x' ∷ []) (without_in w.y.slot z _ (without_in w.x.slot z m.live i f) g)))

  flip_keeps_even : AllEven (tris_of m.live) → AllEven (tris_of m'.live)
  flip_keeps_even h = subst (λ l. AllEven l) (sym new_tris)
      (flip_even rest e.0 e.1 (third w.s e) (third w.t e) w.s w.t w.s' w.t' third_s.nodes third_t.nodes w.corners_s w.corners_t w.differ free
      (same_even (tris_of m.live) (rest ++ (w.s ∷ w.t ∷ [])) old_like h))

  within : (t : Tri) (a b c : ℕ) → Corners t a b c → a < length m.points → b < length m.points → c < length m.points → (n : ℕ) → Has t n → n < length m.points
  within t a b c k x y z n h = elim (k.is n h) [ inl f ↦ subst (λ i. i < length m.points) (sym f) x | inr (inl f) ↦ subst (λ i. i < length m.points) (sym f) y | inr (inr f) ↦ subst (λ i. i < length m.points) (sym f) z ]

  good_new : (t : Tri) → In t (rest ++ (w.s' ∷ w.t' ∷ [])) → GoodTri (length m.points) t
  unfolding rest
  good_new t i =
      let p = good_s.below (third w.s e) third_s.nodes.has2 in
      let q = good_t.below (third w.t e) third_t.nodes.has2 in
      let u = good_s.below e.0 third_s.nodes.has0 in
      let v = good_s.below e.1 third_s.nodes.has1 in
      elim (in_either t rest (w.s' ∷ w.t' ∷ []) i) [
        | inl j ↦ let z = in_tris others t j in ok.tris t (tris_in m.live z.0 t (in_others z.0 z.1).0 z.2)
        | inr (inl f) ↦ good_as _ t w.s' f (record { distinct = w.distinct_s third_s.not_u third_t.not_u; below = within w.s' _ _ _ w.corners_s p u q })
        | inr (inr (inl f)) ↦ good_as _ t w.t' f (record { distinct = w.distinct_t third_s.not_v third_t.not_v; below = within w.t' _ _ _ w.corners_t q v p })
        | inr (inr (inr x4)) ↦ elim x4 [ ]
      ]

  -- a cell of the new mesh was there before, or is one of the two new triangles
  pub data New (z : Live) : Type 0 where
    kept : In z m.live → New z
    turned_x : z.cell ≡ tri w.s' → New z
    turned_y : z.cell ≡ tri w.t' → New z

  pub new_cells : (z : Live) → In z m'.live → New z
  unfolding x' y' new_live
  new_cells z i = elim (in_either z (others ++ (x' ∷ [])) (y' ∷ []) (subst (λ l. In z l) new_live_list i)) [
    | inl j ↦ elim (in_either z others (x' ∷ []) j) [
      | inl k ↦ kept (in_others z k).0
      | inr (inl f) ↦ turned_x (ap (λ l. l.cell) f)
      | inr (inr x4) ↦ elim x4 [ ]
    ]
    | inr (inl f) ↦ turned_y (ap (λ l. l.cell) f)
    | inr (inr x3) ↦ elim x3 [ ]
  ]

  -- a quad of the new mesh was there before
  pub quads_old : (z : Live) (q : Quad) → In z m'.live → z.cell ≡ quad q → In z m.live
  quads_old z q i c = of (new_cells z i)
    where
      of : New z → In z m.live
      of (kept k) = k
      of (turned_x f) = not_both q w.s' (sym c ∙ f)
      of (turned_y f) = not_both q w.t' (sym c ∙ f)

  flip_valid : Valid m'
  unfolding x' y' new_live set_tris set_cell with_live noting others without
  flip_valid =
      let used : m'.used ≡ m.used = ap (λ n. n.used) w.after in
      let points : m'.points ≡ m.points = ap (λ n. n.points) w.after in
      let after : (z : Live) → In z (others ++ (x' ∷ [])) → z.slot ≢ w.y.slot =
      λ z i. elim (in_either z others (x' ∷ []) i) [ inl j ↦ (in_others z j).2 | inr (inl f) ↦ λ g. two_slots (sym (ap (λ l. l.slot) f) ∙ g) | inr (inr x3) ↦ elim x3 [ ] ] in
      let below : (z : Live) → In z ((others ++ (x' ∷ [])) ++ (y' ∷ [])) → z.slot < m.used =
      λ z i. elim (in_either z (others ++ (x' ∷ [])) (y' ∷ []) i) [
        | inl j ↦ elim (in_either z others (x' ∷ []) j) [
          | inl k ↦ ok.given z (in_others z k).0
          | inr (inl f) ↦ subst (λ n. n < m.used) (sym (ap (λ l. l.slot) f)) (ok.given w.x own_x.0)
          | inr (inr x4) ↦ elim x4 [ ]
        ]
        | inr (inl f) ↦ subst (λ n. n < m.used) (sym (ap (λ l. l.slot) f)) (ok.given w.y own_y.0)
        | inr (inr x3) ↦ elim x3 [ ]
      ] in
      record {
        slots = subst (λ l. Slots l) (sym new_live_list)
            (slots_last (others ++ (x' ∷ [])) y' (slots_last others x' (slots_filter _ _ (slots_filter _ m.live ok.slots)) (λ z i. (in_others z i).1)) after);
        given = λ z i. subst (λ n. z.slot < n) (sym used) (below z (subst (λ l. In z l) new_live_list i));
        tris = λ t i. subst (λ l. GoodTri (length l) t) (sym points) (good_new t (subst (λ l. In t l) new_tris i));
        quads = λ z q i c. subst (λ l. GoodQuad (length l) q) (sym points) (ok.quads z q (quads_old z q i c) c);
      }

  -- a flip keeps the mesh valid, and even
  pub flip_kept : Kept m m'
  flip_kept = record { valid = flip_valid; even = flip_keeps_even }
