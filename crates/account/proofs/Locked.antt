-- A locked edge of the given triangles is an edge of the finished mesh.
use Rattle.std.specs.Prelude.{◌≡◌, ◌≢◌, ◌⊎◌, ◌<◌, ◌∷◌, ◌++◌}
use Rattle.laws.specs.Kit.{refl, sym, ◌∙◌, ap, subst, inl, inr, Bool, true, false, not, Option, none, some, ℕ, min, max, arith, eqb, eqb-true, eqb-false, List, []}
use Rattle.definition.specs.Lists.{all}
use Rattle.definition.specs.Numbers.{Settings}
use Rattle.definition.specs.Plane.{Node, Edge}
use Rattle.definition.specs.Cells.{Tri, Quad, Cell, tri, quad, Live, Mesh, new_tri, new_live, key, edges, tri_edges, quad_edges, has_edge_in, has_side, owns, is_locked, in_slot, cell_of, tris_of, all_edges, triangles, with_live, among, without_all, set_cell, push_cell, remove_cells}
use Rattle.definition.specs.Flips.{third, set_tris, flip}
use Rattle.definition.specs.Insertion.{with_point, split_triangle}
use Rattle.definition.specs.Region.{may_go, spares_locked, region}
use Rattle.definition.specs.Attempt.{replaced}
use Rattle.definition.specs.Front.{counting, Result, ran, new_mesh, start, result, run_front}
use Rattle.definition.specs.Account.{EdgeOf}
use Rattle.laws.specs.Bools.{which, either, never}
use Rattle.laws.specs.Lists.{In, in_left, in_right, in_either, in_filter, filter_in, any_in, all_in, flat_map_in}
use Rattle.account.specs.Triangles.{Has}
use Rattle.account.specs.Flips.{Flipped, TriAt}
use Rattle.account.proofs.Flips.{flip_free, flip_made}
use Rattle.account.proofs.Ends.{tri_ends, tri_edge, side_quad, tri_owns, owns_tri}
use Rattle.account.specs.Valid.{Valid}
use Rattle.account.proofs.Valid.{in_without, without_in, not_both, one_cell, tris_in, in_tris}
use Rattle.account.proofs.FlipKeeps.{own_x, own_y, in_order, third_s, third_t, rest, new_tris, still_there, quads_old}
use Rattle.account.proofs.SplitKeeps.{left, t1, t2, t3, l1, l2, l3, split_live, split_tris}
use Rattle.account.proofs.QuadKeeps.{remaining, replaced_live}
use Rattle.account.proofs.Found.{region_so, region_tris, region_slot_tri}
use Rattle.account.proofs.Parity.{triangles_same}
use Rattle.account.proofs.Rearranged.{same_in_tris}
use Rattle.account.specs.Start.{Proper}
use Rattle.account.proofs.Start.{in_slots_at, start_tris, start_valid}
use Rattle.account.proofs.Locks.{flip_locked, split_locked, replaced_locked}
use Rattle.account.specs.Run.{Rule}
use Rattle.account.proofs.Run.{run_ok}
use Rattle.account.specs.Locked.{Joined, Owned}

module _ (e : Edge) (order : e.0 < e.1) where
  -- a live triangle with both ends has it
  tri_owned : (m : Mesh) (t : Tri) → In t (tris_of m.live) → Has t e.0 → Has t e.1 → Owned m e
  tri_owned m t i h g = let z = in_tris m.live t i in record { x = z.0; at = z.1; has = owns_tri e z.0 t z.2 h g }

  one_node : {A : Type 0} (a : ℕ) → e.0 ≡ a → e.1 ≡ a → A
  one_node a f g = absurd (omega arith)

  -- ---- a flip of another edge

  module _ (m m' : Mesh) (f : Edge) (ok : Valid m) (at : In f (all_edges m)) (w : Flipped m f m') (other : e ≢ f) where
    new_s : In w.s' (tris_of m'.live)
    new_s = subst (λ l. In w.s' l) (sym (new_tris m f m' ok at w)) (in_right w.s' (rest m f m' ok at w) (w.s' ∷ w.t' ∷ []) (inl refl))

    new_t : In w.t' (tris_of m'.live)
    new_t = subst (λ l. In w.t' l) (sym (new_tris m f m' ok at w)) (in_right w.t' (rest m f m' ok at w) (w.s' ∷ w.t' ∷ []) (inr (inl refl)))

    at_node : (t : Tri) (a b : ℕ) → Has t a → b ≡ a → Has t b
    at_node t a b h g = subst (λ z. Has t z) (sym g) h

    -- the ends are two of f's ends and a third node p, not both f's; the new triangles have p, and one of f's ends each
    turned : (p : ℕ) → Has w.s' p → Has w.t' p → (e.0 ≡ f.0) ⊎ (e.0 ≡ f.1) ⊎ (e.0 ≡ p) → (e.1 ≡ f.0) ⊎ (e.1 ≡ f.1) ⊎ (e.1 ≡ p) → Owned m' e
    turned p hs ht (inl a) (inl b) = one_node f.0 a b
    turned p hs ht (inl a) (inr (inl b)) = absurd (other (λ i. (a i, b i)))
    turned p hs ht (inl a) (inr (inr b)) = tri_owned m' w.s' new_s (at_node w.s' f.0 e.0 w.corners_s.has1 a) (at_node w.s' p e.1 hs b)
    turned p hs ht (inr (inl a)) (inl b) = absurd (let l = in_order m f m' ok at w in omega arith)
    turned p hs ht (inr (inl a)) (inr (inl b)) = one_node f.1 a b
    turned p hs ht (inr (inl a)) (inr (inr b)) = tri_owned m' w.t' new_t (at_node w.t' f.1 e.0 w.corners_t.has1 a) (at_node w.t' p e.1 ht b)
    turned p hs ht (inr (inr a)) (inl b) = tri_owned m' w.s' new_s (at_node w.s' p e.0 hs a) (at_node w.s' f.0 e.1 w.corners_s.has1 b)
    turned p hs ht (inr (inr a)) (inr (inl b)) = tri_owned m' w.t' new_t (at_node w.t' p e.0 ht a) (at_node w.t' f.1 e.1 w.corners_t.has1 b)
    turned p hs ht (inr (inr a)) (inr (inr b)) = one_node p a b

    -- the edge stays
    flip_owned : Owned m e → Owned m' e
    flip_owned o = elim (which (eqb o.x.slot w.x.slot)) [
      | inl a ↦
          let same : o.x ≡ w.x = one_cell m.live o.x w.x ok.slots o.at (own_x m f m' ok at w).0 (eqb-true o.x.slot w.x.slot a) in
          let h = tri_owns e o.x w.s (ap (λ z. z.cell) same ∙ w.cell_x) o.has in
          let k = (third_s m f m' ok at w).nodes in
          turned (third w.s f) w.corners_s.has0 w.corners_t.has2 (k.is e.0 h.0) (k.is e.1 h.1)
      | inr a ↦ elim (which (eqb o.x.slot w.y.slot)) [
        | inl b ↦
            let same : o.x ≡ w.y = one_cell m.live o.x w.y ok.slots o.at (own_y m f m' ok at w).0 (eqb-true o.x.slot w.y.slot b) in
            let h = tri_owns e o.x w.t (ap (λ z. z.cell) same ∙ w.cell_y) o.has in
            let k = (third_t m f m' ok at w).nodes in
            turned (third w.t f) w.corners_s.has2 w.corners_t.has0 (k.is e.0 h.0) (k.is e.1 h.1)
        | inr b ↦ record { x = o.x; at = still_there m f m' ok at w o.x o.at (eqb-false o.x.slot w.x.slot a) (eqb-false o.x.slot w.y.slot b); has = o.has }
      ]
    ]

  -- ---- a split

  module _ (m : Mesh) (x : Live) (t : Tri) (p : Node) (ok : Valid m) (at : In x m.live) (cell : x.cell ≡ tri t) where
    abbrev after : Mesh
    after = split_triangle m x.slot t p

    part : (r : Tri) → In r (t1 m x t p ok at cell ∷ t2 m x t p ok at cell ∷ t3 m x t p ok at cell ∷ []) → Has r e.0 → Has r e.1 → Owned after e
    part r i h g = tri_owned after r (subst (λ l. In r l) (sym (split_tris m x t p ok at cell)) (in_right r (tris_of (left m x t p ok at cell)) _ i)) h g

    -- two nodes of the triangle are nodes of a part
    parts : Has t e.0 → Has t e.1 → Owned after e
    unfolding t1 t2 t3 new_tri
    parts (inl a) (inl b) = one_node t.n0 a b
    parts (inl a) (inr (inl b)) = part (t1 m x t p ok at cell) (inl refl) (inl a) (inr (inl b))
    parts (inl a) (inr (inr b)) = part (t3 m x t p ok at cell) (inr (inr (inl refl))) (inr (inl a)) (inl b)
    parts (inr (inl a)) (inl b) = part (t1 m x t p ok at cell) (inl refl) (inr (inl a)) (inl b)
    parts (inr (inl a)) (inr (inl b)) = one_node t.n1 a b
    parts (inr (inl a)) (inr (inr b)) = part (t2 m x t p ok at cell) (inr (inl refl)) (inl a) (inr (inl b))
    parts (inr (inr a)) (inl b) = part (t3 m x t p ok at cell) (inr (inr (inl refl))) (inl a) (inr (inl b))
    parts (inr (inr a)) (inr (inl b)) = part (t2 m x t p ok at cell) (inr (inl refl)) (inr (inl a)) (inl b)
    parts (inr (inr a)) (inr (inr b)) = one_node t.n2 a b

    left_stays : (z : Live) → In z (left m x t p ok at cell) → In z after.live
    left_stays z i =
        let a = left m x t p ok at cell ++ (l1 m x t p ok at cell ∷ []) in
        subst (λ l. In z l) (sym (split_live m x t p ok at cell)) (in_left z (a ++ (l2 m x t p ok at cell ∷ [])) _ (in_left z a _ (in_left z (left m x t p ok at cell) _ i)))

    -- the edge stays
    split_owned : Owned m e → Owned after e
    unfolding left
    split_owned o = elim (which (eqb o.x.slot x.slot)) [
      | inl a ↦
          let same : o.x ≡ x = one_cell m.live o.x x ok.slots o.at at (eqb-true o.x.slot x.slot a) in
          let h = tri_owns e o.x t (ap (λ z. z.cell) same ∙ cell) o.has in
          parts h.0 h.1
      | inr a ↦ record { x = o.x; at = left_stays o.x (without_in x.slot o.x m.live o.at (eqb-false o.x.slot x.slot a)); has = o.has }
    ]

  -- ---- a quad

  -- the edge stays where it is locked
  quad_owned : (m : Mesh) (seed : ℕ) (q : Quad) (cells : List Live) → Valid m → TriAt m seed → region m seed q ≡ some cells → is_locked m e ≡ true
      → Owned m e → Owned (replaced m q cells) e
  unfolding owns has_side new_live without_all may_go spares_locked among in_slot edges
  quad_owned m seed q cells ok sd h lock o = elim (which (among cells o.x)) [
    | inr a ↦ record {
      x = o.x;
      at = subst (λ l. In o.x l) (sym (replaced_live m q cells)) (in_left o.x (remaining m q cells) (new_live m.used (quad q) ∷ []) (filter_in (λ x. not (among cells x)) m.live o.at (ap not a)));
      has = o.has;
    }
    | inl a ↦
        let t = region_slot_tri m seed q cells ok sd h o.x o.at a in
        let k = tri_owns e o.x t.0 t.1 o.has in
        let here : In o.x cells = of_region a in
        let free = all_in (λ x. all (may_go m q) (edges x.cell)) cells (region_so m seed q cells h).1 o.x here in
        let on : In e (edges o.x.cell) = subst (λ c. In e (edges c)) (sym t.1) (tri_edge t.0 e (record { h0 = k.0; h1 = k.1; order = order })) in
        let new = new_live m.used (quad q) in
        record {
          x = new;
          at = subst (λ l. In new l) (sym (replaced_live m q cells)) (in_right new (remaining m q cells) (new ∷ []) (inl refl));
          has = elim (either (has_edge_in (quad_edges q) e) (not (is_locked m e)) (all_in (may_go m q) (edges o.x.cell) free e on)) [ inl g ↦ g | inr g ↦ never (is_locked m e) lock (not_lock g) ];
        }
  ]
    where
      of_region : among cells o.x ≡ true → In o.x cells
      of_region a =
          let r = any_in (in_slot o.x.slot) cells a in
          let w = region_tris m seed q cells ok sd h r.0 r.1 in
          let g : r.0 ≡ o.x = one_cell m.live r.0 o.x ok.slots w.0 o.at (sym (eqb-true o.x.slot r.0.slot r.2)) in
          subst (λ z. In z cells) g r.1

      not_lock : not (is_locked m e) ≡ true → is_locked m e ≡ false
      not_lock g = elim (which (is_locked m e)) [ inl k ↦ never false (rw k at g) refl | inr k ↦ k ]

module _ (s : Settings) (lk : Edge → Bool) (e : Edge) (order : e.0 < e.1) (lock : lk e ≡ true) where
  locked_in : (m : Mesh) → m.locked ≡ lk → is_locked m e ≡ true
  unfolding is_locked
  locked_in m h = ap (λ f. f e) h ∙ lock

  flip_joined : (m m' : Mesh) (f : Edge) (quads : List Quad) → Valid m → In f (all_edges m) → flip m f ≡ some m' → Joined lk e m quads → Joined lk e m' quads
  flip_joined m m' f quads ok at h j =
      let w = flip_made m f m' h in
      let other : e ≢ f = λ g. never (is_locked m f) (subst (λ z. is_locked m z ≡ true) g (locked_in m j.locked_are)) (flip_free m f m' h) in
      record {
        locked_are = flip_locked m f m' h ∙ j.locked_are;
        owned = flip_owned e order m m' f ok at w other j.owned;
        placed = λ x q i c. j.placed x q (quads_old m f m' ok at w x q i c) c;
      }

  split_joined : (m : Mesh) (x : Live) (t : Tri) (p : Node) (quads : List Quad) → Valid m → In x m.live → x.cell ≡ tri t → Joined lk e m quads
      → Joined lk e (split_triangle m x.slot t p) quads
  unfolding left l1 l2 l3 new_live
  split_joined m x t p quads ok at cell j =
      let a = left m x t p ok at cell ++ (l1 m x t p ok at cell ∷ []) in
      let b = a ++ (l2 m x t p ok at cell ∷ []) in
      record {
        locked_are = split_locked m x.slot t p ∙ j.locked_are;
        owned = split_owned e order m x t p ok at cell j.owned;
        placed = λ z q i c. elim (in_either z b (l3 m x t p ok at cell ∷ []) (subst (λ l. In z l) (split_live m x t p ok at cell) i)) [
          | inl k ↦ elim (in_either z a (l2 m x t p ok at cell ∷ []) k) [
            | inl k' ↦ elim (in_either z (left m x t p ok at cell) (l1 m x t p ok at cell ∷ []) k') [
              | inl k'' ↦ j.placed z q (in_without x.slot z m.live k'').0 c
              | inr (inl f) ↦ not_both q (t1 m x t p ok at cell) (sym c ∙ ap (λ l. l.cell) f)
              | inr (inr x5) ↦ elim x5 [ ]
            ]
            | inr (inl f) ↦ not_both q (t2 m x t p ok at cell) (sym c ∙ ap (λ l. l.cell) f)
            | inr (inr x4) ↦ elim x4 [ ]
          ]
          | inr (inl f) ↦ not_both q (t3 m x t p ok at cell) (sym c ∙ ap (λ l. l.cell) f)
          | inr (inr x3) ↦ elim x3 [ ]
        ];
      }

  quad_joined : (m : Mesh) (seed : ℕ) (q : Quad) (cells : List Live) (quads : List Quad) → Valid m → TriAt m seed → region m seed q ≡ some cells → Joined lk e m quads
      → Joined lk e (replaced m q cells) (quads ++ (q ∷ []))
  unfolding new_live without_all
  quad_joined m seed q cells quads ok sd h j = record {
    locked_are = replaced_locked m q cells ∙ j.locked_are;
    owned = quad_owned e order m seed q cells ok sd h (locked_in m j.locked_are) j.owned;
    placed = λ x p i c. elim (in_either x (remaining m q cells) (new_live m.used (quad q) ∷ []) (subst (λ l. In x l) (replaced_live m q cells) i)) [
      | inl k ↦ in_left p quads (q ∷ []) (j.placed x p (in_filter (λ x. not (among cells x)) m.live k).0 c)
      | inr (inl f) ↦ let g : quad p ≡ quad q = sym c ∙ ap (λ l. l.cell) f in let k : p ≡ q = cc in in_right p quads (q ∷ []) (inl k)
      | inr (inr x3) ↦ elim x3 [ ]
    ];
  }

  -- the edge stays through the run
  joined_rule : Rule s (λ st es. Joined lk e st.mesh st.quads) (λ st es n m. Joined lk e m st.quads) (λ st. Unit {0})
  unfolding counting
  joined_rule = record {
    opens = λ st es ok h f. h;
    begins = λ st es h. h;
    flips = λ st es n m m' f ok h i w. flip_joined m m' f st.quads ok i w h;
    splits = λ st es n m x t p ok h w. split_joined m x t p st.quads ok w.at w.cell h;
    refuses = λ st f es why n m h ok w. w;
    places = λ st f es n m q h w. subst (λ z. Joined lk e z (st.quads ++ (q ∷ []))) (sym w.after) (quad_joined w.mesh w.seed q w.cells st.quads w.before.0 w.seed_tri w.reached w.before.1);
    ends = λ st f es n m h ok w. tt;
    limits = λ st es h. h;
    empties = λ st h. h;
  }

edge_of : (lk : Edge → Bool) (e : Edge) (m : Mesh) (quads : List Quad) → e.0 < e.1 → Joined lk e m quads → (x : Live) (c : Cell) → In x m.live → x.cell ≡ c → owns e x ≡ true
    → EdgeOf quads (triangles m) e
unfolding owns
edge_of lk e m quads order j x (tri t) i c h =
    let n = tri_owns e x t c h in
    inr (flat_map_in tri_edges t e (triangles m) (same_in_tris (tris_of m.live) (triangles m) (triangles_same m) t (tris_in m.live x t i c)) (tri_edge t e (record { h0 = n.0; h1 = n.1; order = order })))
edge_of lk e m quads order j x (quad q) i c h = inl (flat_map_in quad_edges q e quads (j.placed x q i c) (side_quad q e (rw c at h)))

-- an edge of a given triangle that is locked is an edge of the finished mesh
pub locked_survives : (s : Settings) (lk : Edge → Bool) (ts : List Tri) (ps : List Node) (r : Result) → Proper ps ts → run_front s lk ts ps ≡ ran r
    → (e : Edge) → lk e ≡ true → (t : Tri) → In t ts → In e (tri_edges t) → EdgeOf r.quads r.triangles e
unfolding result start new_mesh
locked_survives s lk ts ps r h f e lock t i k =
    let n = tri_ends t e (h t i).distinct k in
    let first : Joined lk e (start s lk ts ps).mesh [] = record {
      locked_are = refl;
      owned = tri_owned e n.order (start s lk ts ps).mesh t (subst (λ l. In t l) (sym (start_tris s lk ts ps)) i) n.h0 n.h1;
      placed = λ x q j c. let g = (in_slots_at 0 ts x j).2 in not_both q g.0 (sym c ∙ g.1);
    } in
    let w = run_ok s _ _ _ (joined_rule s lk e n.order lock) lk ts ps r (start_valid s lk ts ps h, first) f in
    let j = w.1.1 in
    subst (λ z. EdgeOf z.quads z.triangles e) (sym w.2) (edge_of lk e w.0.mesh w.0.quads n.order j j.owned.x j.owned.x.cell j.owned.at refl j.owned.has)
