-- One event done again: a flip, a split and a placement.
use Rattle.std.specs.Prelude.{◌≡◌, ◌≢◌, ◌+◌, ◌<◌, ◌≤◌, ◌∷◌, ◌++◌}
use Rattle.laws.specs.Kit.{refl, sym, ◌∙◌, ap, subst, inl, inr, Bool, true, false, some, ℕ, arith, ltb, T, eq-eqb, ne_eqb, lt-ltb, le-ltb, lt-leb, List, [], map, append-nil, length, length-map, Float, binary64, fits}
use Rattle.std.specs.Float.Ieee.Fits.{add-fits}
use Rattle.definition.specs.Lists.{any, all, find, flat_map, contains}
use Rattle.definition.specs.Floats.{◌⊕◌}
use Rattle.definition.specs.Numbers.{Settings}
use Rattle.definition.specs.Plane.{Node, Vec, Edge, flat}
use Rattle.definition.specs.Cells.{Tri, Quad, Cell, tri, quad, Live, Event, was_split, was_flipped, was_placed, Mesh, quad_nodes, node_at, live_tri, owners, is_locked, in_slot, cell_of, all_edges, with_live, noting, set_cell, push_cell, remove_cells}
use Rattle.definition.specs.Trace.{words_in, traced, in_room, quads_placed}
use Rattle.definition.specs.Flips.{third, apart, convex_pair, set_tris, flipped, flip_tris, flip_cells, flip_owners, flip}
use Rattle.definition.specs.Insertion.{inserted, holds, with_point, split_triangle, split, along}
use Rattle.definition.specs.Account.{All}
use Rattle.definition.specs.Attempt.{replaced}
use Rattle.definition.specs.Front.{counting, new_mesh, start}
use Rattle.definition.specs.Replay.{Redone, redone, balked, redo_inserted, redo_split, redo_flipped, cells_in, all_different, triangles_in, redo}
use Rattle.laws.specs.Bools.{which}
use Rattle.laws.specs.Lists.{In, in_either, no_some}
use Rattle.account.proofs.Flips.{flip_free, flip_made}
use Rattle.account.proofs.FlipKeeps.{own_x, in_order, third_s}
use Rattle.account.specs.Valid.{Slots, Valid}
use Rattle.account.proofs.Valid.{tris_in}
use Rattle.account.proofs.Found.{region_tris}
use Rattle.account.proofs.LiveTris.{region_slots}
use Rattle.account.specs.Steps.{Splitting, Made}
use Rattle.account.specs.Run.{Rule}
use Rattle.account.specs.Redo.{Enterable, Redoable, bare, redo_all}

module _ (b : Float) where
  pub bare_convex : (m : Mesh) (u v p q : ℕ) → convex_pair (bare b m) u v p q ≡ convex_pair m u v p q
  unfolding bare convex_pair apart node_at
  bare_convex m u v p q = refl

  pub bare_flipped : (m : Mesh) (e : Edge) (i : ℕ) (t : Tri) (j p q : ℕ) → flipped (bare b m) e i t j p q ≡ bare b (flipped m e i t j p q)
  unfolding bare flipped set_tris set_cell with_live noting
  bare_flipped m e i t j p q = refl

  pub bare_tris : (m m' : Mesh) (e : Edge) (i : ℕ) (s : Tri) (j : ℕ) (t : Tri) → flip_tris m e i s j t ≡ some m' → flip_tris (bare b m) e i s j t ≡ some (bare b m')
  unfolding flip_tris
  bare_tris m m' e i s j t h =
      let p = third s e in
      let q = third t e in
      elim (which (convex_pair m e.0 e.1 p q)) [
        | inr f ↦ no_some m' (rw f at h)
        | inl f ↦
            let g : some (flipped m e i s j p q) ≡ some m' = rw f at h in
            let k : flipped m e i s j p q ≡ m' = cc in
            rw (bare_convex m e.0 e.1 p q, f) (ap some (bare_flipped m e i s j p q ∙ ap (bare b) k))
      ]

  pub bare_cells : (m m' : Mesh) (e : Edge) (i : ℕ) (c : Cell) (j : ℕ) (d : Cell) → flip_cells m e i c j d ≡ some m' → flip_cells (bare b m) e i c j d ≡ some (bare b m')
  unfolding flip_cells
  bare_cells m m' e i (tri s) j (tri t) h = bare_tris m m' e i s j t h
  bare_cells m m' e i (tri s) j (quad q) h = no_some m' h
  bare_cells m m' e i (quad q) j d h = no_some m' h

  pub bare_owners : (m m' : Mesh) (e : Edge) (xs : List Live) → flip_owners m e xs ≡ some m' → flip_owners (bare b m) e xs ≡ some (bare b m')
  unfolding flip_owners
  bare_owners m m' e [] h = no_some m' h
  bare_owners m m' e (x ∷ []) h = no_some m' h
  bare_owners m m' e (x ∷ y ∷ []) h = bare_cells m m' e x.slot x.cell y.slot y.cell h
  bare_owners m m' e (x ∷ y ∷ z ∷ more) h = no_some m' h

  -- a flip that was made is made again
  pub bare_flip : (m m' : Mesh) (e : Edge) → flip m e ≡ some m' → flip (bare b m) e ≡ some (bare b m')
  unfolding flip is_locked owners bare
  bare_flip m m' e h = bare_owners m m' e (owners m e) (rw (flip_free m e m' h) at h)

  pub bare_replaced : (m : Mesh) (q : Quad) (cells : List Live) → replaced (bare b m) q cells ≡ bare b (replaced m q cells)
  unfolding bare replaced push_cell remove_cells with_live noting
  bare_replaced m q cells = refl

  pub bare_holds : (m : Mesh) (p : Node) (c : Cell) → holds (bare b m) p c ≡ holds m p c
  unfolding bare holds node_at
  bare_holds m p (tri t) = refl
  bare_holds m p (quad q) = refl

-- ---- cells by their slots
pub find_slot : (xs : List Live) (x : Live) → Slots xs → In x xs → find (in_slot x.slot) xs ≡ some x
unfolding find in_slot
find_slot [] x h x4 = elim x4 [ ]
find_slot (y ∷ ys) x h (inl e) = rw (eq-eqb x.slot y.slot (ap (λ z. z.slot) e)) (ap some (sym e))
find_slot (y ∷ ys) x h (inr i) = rw (ne_eqb x.slot y.slot (λ f. h.0 x i (sym f))) (find_slot ys x h.1 i)

-- the cell in a live cell's slot is that cell
pub cell_at : (m : Mesh) (x : Live) → Valid m → In x m.live → cell_of m x.slot ≡ some x
unfolding cell_of
cell_at m x ok i = find_slot m.live x ok.slots i

module _ (m : Mesh) (ok : Valid m) where
  -- the cells of their slots
  pub cells_back : (xs : List Live) → ((x : Live) → In x xs → In x m.live) → cells_in m (map (λ x. x.slot) xs) ≡ xs
  unfolding cells_in flat_map
  cells_back [] h = refl
  cells_back (x ∷ xs) h = rw (cell_at m x ok (h x (inl refl))) (ap (λ l. x ∷ l) (cells_back xs (λ y i. h y (inr i))))

  pub tris_there : (xs : List Live) → ((x : Live) → In x xs → In x m.live × (live_tri x ≡ true)) → triangles_in m (map (λ x. x.slot) xs) ≡ true
  unfolding triangles_in all cells_in flat_map any
  tris_there [] h = refl
  tris_there (x ∷ xs) h = rw (cell_at m x ok (h x (inl refl)).0, (h x (inl refl)).1) (tris_there xs (λ y i. h y (inr i)))

pub slot_new : (x : Live) (xs : List Live) → ((y : Live) → In y xs → x.slot ≢ y.slot) → contains (map (λ y. y.slot) xs) x.slot ≡ false
unfolding contains any
slot_new x [] h = refl
slot_new x (y ∷ ys) h = rw (ne_eqb x.slot y.slot (h y (inl refl))) (slot_new x ys (λ z i. h z (inr i)))

pub slots_differ : (xs : List Live) → Slots xs → all_different (map (λ x. x.slot) xs) ≡ true
unfolding all_different
slots_differ [] h = refl
slots_differ (x ∷ xs) h = rw (slot_new x xs h.0) (slots_differ xs h.1)

-- ---- one event again
module _ (s₀ : Settings) (b : Float) where
  pub redo_flip : (m m' : Mesh) (e : Edge) → Valid m → In e (all_edges m) → flip m e ≡ some m' → redo s₀ (bare b m) (was_flipped e) ≡ redone (bare b m')
  unfolding redo redo_flipped bare
  redo_flip m m' e ok i f =
      let w = flip_made m e m' f in
      let o = in_order m e m' ok i w in
      let k = (ok.tris w.s (tris_in m.live w.x w.s (own_x m e m' ok i w).0 w.cell_x)).below e.1 (third_s m e m' ok i w).nodes.has1 in
      rw (lt-ltb e.0 e.1 o, lt-ltb e.1 (length m.points) k) (ap redo_flipped (bare_flip b m m' e f))

  pub split_again : (m : Mesh) (id : ℕ) (t : Tri) (p : Node) → length m.points < s₀.capacity → m.used + 2 ≤ s₀.slots
      → split s₀ (bare b m) p id (tri t) ≡ inserted (length m.points) (bare b (split_triangle m id t p))
  unfolding split bare in_room traced words_in split_triangle push_cell set_cell with_live with_point noting
  split_again m id t p h k = rw (lt-leb s₀.capacity (length m.points) h, le-ltb s₀.slots (m.used + 2) k) refl

  pub bare_cell : (m : Mesh) (id : ℕ) → cell_of (bare b m) id ≡ cell_of m id
  unfolding bare cell_of
  bare_cell m id = refl

  pub split_held : (m : Mesh) (x : Live) (t : Tri) (p : Node) → x.cell ≡ tri t → holds m p (tri t) ≡ true → length m.points < s₀.capacity → m.used + 2 ≤ s₀.slots
      → redo_split s₀ (bare b m) p (some x) ≡ redone (bare b (split_triangle m x.slot t p))
  unfolding redo_split redo_inserted
  split_held m x t p c h k l = rw (c, bare_holds b m p (tri t), h, split_again m x.slot t p k l) refl

  pub redo_split_at : (m : Mesh) (x : Live) (t : Tri) (p : Node) → Valid m → In x m.live → x.cell ≡ tri t → holds m p (tri t) ≡ true
      → length m.points < s₀.capacity → m.used + 2 ≤ s₀.slots → redo s₀ (bare b m) (was_split x.slot p) ≡ redone (bare b (split_triangle m x.slot t p))
  unfolding redo
  redo_split_at m x t p ok i c h k l = ap (redo_split s₀ (bare b m) p) (bare_cell m x.slot ∙ cell_at m x ok i) ∙ split_held m x t p c h k l

  pub all_below : (n : ℕ) (vs : List ℕ) → All (λ a. a < n) vs → all (λ v. ltb v n) vs ≡ true
  unfolding all
  all_below n [] h = refl
  all_below n (v ∷ vs) h = rw (lt-ltb v n h.0) (all_below n vs h.1)

  pub bare_triangles : (m : Mesh) (ids : List ℕ) → triangles_in (bare b m) ids ≡ triangles_in m ids
  unfolding bare triangles_in cells_in cell_of
  bare_triangles m ids = refl

  pub bare_in : (m : Mesh) (ids : List ℕ) → cells_in (bare b m) ids ≡ cells_in m ids
  unfolding bare cells_in cell_of
  bare_in m ids = refl

  pub bare_known : (m : Mesh) (vs : List ℕ) → All (λ a. a < length m.points) vs → all (λ v. ltb v (length (bare b m).points)) vs ≡ true
  unfolding bare
  bare_known m vs h = all_below (length m.points) vs h

  pub bare_room : (m : Mesh) → m.used + 1 ≤ s₀.slots → ltb s₀.slots ((bare b m).used + 1) ≡ false
  unfolding bare
  bare_room m h = le-ltb s₀.slots (m.used + 1) h

  pub redo_placed : (m : Mesh) (q : Quad) (cells : List Live) → Valid m → ((x : Live) → In x cells → In x m.live × (live_tri x ≡ true)) → Slots cells
      → All (λ a. a < length m.points) (quad_nodes q) → m.used + 1 ≤ s₀.slots
      → redo s₀ (bare b m) (was_placed q (map (λ x. x.slot) cells)) ≡ redone (bare b (replaced m q cells))
  unfolding redo
  redo_placed m q cells ok tris differ near room =
      rw (
        bare_known m (quad_nodes q) near,
        bare_triangles m (map (λ x. x.slot) cells),
        tris_there m ok cells tris,
        slots_differ cells differ,
        bare_room m room,
        bare_in m (map (λ x. x.slot) cells),
        cells_back m ok cells (λ x i. (tris x i).0),
        bare_replaced b m q cells,
      )
