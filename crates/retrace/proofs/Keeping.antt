-- What is done to a mesh is done to what is stored of it.
use Rattle.std.specs.Prelude.{◌≡◌, ◌&&◌, ◌||◌, ◌∷◌, ◌++◌}
use Rattle.laws.specs.Kit.{refl, sym, ◌∙◌, ap, inl, inr, Bool, true, false, not, Option, none, some, ℕ, suc, arith, List, [], map, append-nil, length}
use Rattle.definition.specs.Lists.{filter, any}
use Rattle.definition.specs.Plane.{Node, Edge}
use Rattle.definition.specs.Cells.{Tri, Quad, Cell, tri, quad, Live, Event, was_split, was_flipped, was_placed, Mesh, new_tri, new_live, node_at, is_tri, live_tri, owns, owners, is_locked, in_slot, with_live, noting, without, among, without_all, remove_cells, set_cell, push_cell}
use Rattle.definition.specs.Flips.{third, apart, convex_pair, first_turned, second_turned, runs, set_tris, flipped, flip_tris, flip_cells, flip_owners, flip}
use Rattle.definition.specs.Insertion.{with_point, split_triangle}
use Rattle.definition.specs.Attempt.{replaced}
use Rattle.laws.specs.Bools.{which}
use Rattle.laws.specs.Lists.{filter_yes, filter_no, filter_append}
use Rattle.retrace.specs.Stored.{plain, kept, stored}

-- ---- lists

module _ {A : Type 0} where
  -- two filters in either order
  pub filter_swap : (p q : A → Bool) (xs : List A) → filter p (filter q xs) ≡ filter q (filter p xs)
  unfolding filter
  filter_swap p q [] = refl
  filter_swap p q (x ∷ xs) = let next = filter_swap p q xs in elim (which (p x)) [
    | inl e ↦ elim (which (q x)) [
      | inl f ↦
          ap (filter p) (filter_yes q x xs f) ∙ filter_yes p x (filter q xs) e ∙ ap (λ l. x ∷ l) next ∙ sym (filter_yes q x (filter p xs) f) ∙ ap (filter q) (sym (filter_yes p x xs e))
      | inr f ↦ ap (filter p) (filter_no q x xs f) ∙ next ∙ sym (filter_no q x (filter p xs) f) ∙ ap (filter q) (sym (filter_yes p x xs e))
    ]
    | inr e ↦ elim (which (q x)) [
      | inl f ↦ ap (filter p) (filter_yes q x xs f) ∙ filter_no p x (filter q xs) e ∙ next ∙ ap (filter q) (sym (filter_no p x xs e))
      | inr f ↦ ap (filter p) (filter_no q x xs f) ∙ next ∙ ap (filter q) (sym (filter_no p x xs e))
    ]
  ]

-- the stored ones, of a list that ends in a stored one
kept_last : (xs : List Live) (x : Live) → kept x ≡ true → filter kept (xs ++ (x ∷ [])) ≡ filter kept xs ++ (x ∷ [])
unfolding filter
kept_last xs x h = filter_append kept xs (x ∷ []) ∙ ap (λ l. filter kept xs ++ l) (filter_yes kept x [] h)

-- or in one that is not
kept_less : (xs : List Live) (x : Live) → kept x ≡ false → filter kept (xs ++ (x ∷ [])) ≡ filter kept xs
unfolding filter
kept_less xs x h = filter_append kept xs (x ∷ []) ∙ ap (λ l. filter kept xs ++ l) (filter_no kept x [] h) ∙ append-nil (filter kept xs)

kept_tri : (i : ℕ) (t : Tri) → kept (new_live i (tri t)) ≡ true
unfolding kept plain new_live
kept_tri i t = refl

-- ---- one change

pub stored_set : (m : Mesh) (i : ℕ) (t : Tri) → stored (set_cell m i (tri t)) ≡ set_cell (stored m) i (tri t)
unfolding stored set_cell with_live without
stored_set m i t =
    let p : Live → Bool = λ x. not (in_slot i x) in
    ap (λ l. record { points = m.points; used = m.used; live = l; bucket = m.bucket; locked = m.locked; room = m.room; history = m.history })
    (kept_last (filter p m.live) (new_live i (tri t)) (kept_tri i t) ∙ ap (λ l. l ++ (new_live i (tri t) ∷ [])) (filter_swap kept p m.live))

pub stored_push : (m : Mesh) (c : Cell) → plain c ≡ true → stored (push_cell m c) ≡ push_cell (stored m) c
unfolding stored push_cell with_live kept new_live
stored_push m c h =
    ap (λ l. record { points = m.points; used = suc m.used; live = l; bucket = m.bucket; locked = m.locked; room = m.room; history = m.history })
    (kept_last m.live (new_live m.used c) h)

-- a cell that is not stored takes a slot
pub stored_skip : (m : Mesh) (c : Cell) → plain c ≡ false → stored (push_cell m c) ≡ with_live (stored m) (suc m.used) (stored m).live
unfolding stored push_cell with_live kept new_live
stored_skip m c h =
    ap (λ l. record { points = m.points; used = suc m.used; live = l; bucket = m.bucket; locked = m.locked; room = m.room; history = m.history })
    (kept_less m.live (new_live m.used c) h)

pub stored_remove : (m : Mesh) (gone : List Live) → stored (remove_cells m gone) ≡ remove_cells (stored m) gone
unfolding stored remove_cells with_live without_all
stored_remove m gone =
    ap (λ l. record { points = m.points; used = m.used; live = l; bucket = m.bucket; locked = m.locked; room = m.room; history = m.history })
    (filter_swap kept (λ x. not (among gone x)) m.live)

pub stored_noting : (m : Mesh) (v : Event) → stored (noting v m) ≡ noting v (stored m)
unfolding stored noting with_live
stored_noting m v = refl

pub stored_point : (m : Mesh) (p : Node) → stored (with_point m p) ≡ with_point (stored m) p
unfolding stored with_point with_live
stored_point m p = refl

-- what is not the cells stays
pub stored_used : (m : Mesh) → (stored m).used ≡ m.used
unfolding stored with_live
stored_used m = refl

pub stored_points : (m : Mesh) → (stored m).points ≡ m.points
unfolding stored with_live
stored_points m = refl

-- ---- flips and splits

pub stored_flipped : (m : Mesh) (e : Edge) (i : ℕ) (t : Tri) (j p q : ℕ) → stored (flipped m e i t j p q) ≡ flipped (stored m) e i t j p q
unfolding flipped set_tris
stored_flipped m e i t j p q =
    let a = first_turned (runs t e) e p q in
    let b = second_turned (runs t e) e p q in
    stored_noting (set_cell (set_cell m i (tri a)) j (tri b)) (was_flipped e) ∙ ap (noting (was_flipped e)) (stored_set (set_cell m i (tri a)) j b ∙ ap (λ n. set_cell n j (tri b)) (stored_set m i a))

tri_plain : (t : Tri) → plain (tri t) ≡ true
unfolding plain
tri_plain t = refl

pub stored_split : (m : Mesh) (id : ℕ) (t : Tri) (p : Node) → stored (split_triangle m id t p) ≡ split_triangle (stored m) id t p
unfolding split_triangle
stored_split m id t p =
    let v = length m.points in
    let a = new_tri t.n0 t.n1 v in
    let b = new_tri t.n1 t.n2 v in
    let c = new_tri t.n2 t.n0 v in
    let m1 = set_cell (with_point m p) id (tri a) in
    let m2 = push_cell m1 (tri b) in
    stored_noting (push_cell m2 (tri c)) (was_split id p)
    ∙ ap (noting (was_split id p)) (stored_push m2 (tri c) (tri_plain c)
    ∙ ap (λ n. push_cell n (tri c)) (stored_push m1 (tri b) (tri_plain b)
    ∙ ap (λ n. push_cell n (tri b)) (stored_set (with_point m p) id a ∙ ap (λ n. set_cell n id (tri a)) (stored_point m p))))
    ∙ ap (λ z. noting (was_split id p) (push_cell (push_cell (set_cell (with_point (stored m) p) id (tri (new_tri t.n0 t.n1 z))) (tri (new_tri t.n1 t.n2 z))) (tri (new_tri t.n2 t.n0 z)))) (ap length (sym (stored_points m)))

-- a quad in the place of some cells
pub stored_replaced : (m : Mesh) (q : Quad) (cells : List Live) → plain (quad q) ≡ true → stored (replaced m q cells) ≡ replaced (stored m) q cells
unfolding replaced
stored_replaced m q cells h =
    stored_noting (push_cell (remove_cells m cells) (quad q)) (was_placed q (map (λ x. x.slot) cells)) ∙ ap (noting (was_placed q (map (λ x. x.slot) cells))) (stored_push (remove_cells m cells) (quad q) h ∙ ap (λ n. push_cell n (quad q)) (stored_remove m cells))

-- ---- owners

-- a cell that is not stored has the edge
unfoldable pub hidden : Mesh → Edge → Bool
hidden m e = any (λ x. not (kept x) && owns e x) m.live

none_hidden : (e : Edge) (xs : List Live) → any (λ x. not (kept x) && owns e x) xs ≡ false → filter (owns e) (filter kept xs) ≡ filter (owns e) xs
unfolding filter any
none_hidden e [] h = refl
none_hidden e (x ∷ xs) h = elim (which (kept x)) [
  | inl f ↦ let next = none_hidden e xs (rw f at h) in elim (which (owns e x)) [ inl g ↦ rw (f, g) (ap (λ l. x ∷ l) next) | inr g ↦ rw (f, g) next ]
  | inr f ↦ elim (which (owns e x)) [ inl g ↦ absurd (bad (rw (f, g) at h)) | inr g ↦ rw (f, g) (none_hidden e xs (rw (f, g) at h)) ]
]
  where
    bad : true ≡ false → ⊥
    bad z = let y : ◌≡◌ {A = ℕ} 0 1 = cc in omega arith

pub stored_owners : (m : Mesh) (e : Edge) → hidden m e ≡ false → owners (stored m) e ≡ owners m e
unfolding hidden owners stored with_live
stored_owners m e h = none_hidden e m.live h

-- ---- a flip

-- the flipped mesh as it is stored
abbrev pub stored_if : Option Mesh → Option Mesh
stored_if none = none
stored_if (some m) = some (stored m)

module _ (m : Mesh) (e : Edge) where
  convex_same : (u v p q : ℕ) → convex_pair (stored m) u v p q ≡ convex_pair m u v p q
  unfolding convex_pair apart node_at stored with_live
  convex_same u v p q = refl

  stored_tris : (i : ℕ) (s : Tri) (j : ℕ) (t : Tri) → flip_tris (stored m) e i s j t ≡ stored_if (flip_tris m e i s j t)
  unfolding flip_tris
  stored_tris i s j t =
      let p = third s e in
      let q = third t e in
      elim (which (convex_pair m e.0 e.1 p q)) [
        | inl f ↦ rw (convex_same e.0 e.1 p q, f) (ap some (sym (stored_flipped m e i s j p q)))
        | inr f ↦ rw (convex_same e.0 e.1 p q, f) refl
      ]

  stored_cells : (i : ℕ) (c : Cell) (j : ℕ) (d : Cell) → flip_cells (stored m) e i c j d ≡ stored_if (flip_cells m e i c j d)
  unfolding flip_cells
  stored_cells i (tri s) j (tri t) = stored_tris i s j t
  stored_cells i (tri s) j (quad q) = refl
  stored_cells i (quad q) j d = refl

  stored_by_owners : (xs : List Live) → flip_owners (stored m) e xs ≡ stored_if (flip_owners m e xs)
  unfolding flip_owners
  stored_by_owners [] = refl
  stored_by_owners (x ∷ []) = refl
  stored_by_owners (x ∷ y ∷ []) = stored_cells x.slot x.cell y.slot y.cell
  stored_by_owners (x ∷ y ∷ z ∷ more) = refl

  -- where every owner is stored, a flip is one of what is stored
  pub stored_flip : is_locked m e ≡ false → hidden m e ≡ false → flip (stored m) e ≡ stored_if (flip m e)
  unfolding flip is_locked stored with_live
  stored_flip free h =
      let o : flip_owners (stored m) e (owners (stored m) e) ≡ stored_if (flip_owners m e (owners m e)) = ap (flip_owners (stored m) e) (stored_owners m e h) ∙ stored_by_owners (owners m e) in
      rw free o

  quad_cell : (c : Cell) → plain c ≡ false → is_tri c ≡ false
  unfolding plain is_tri
  quad_cell (tri t) k = k
  quad_cell (quad q) k = refl

  unkept_quad : (x : Live) → kept x ≡ false → live_tri x ≡ false
  unfolding kept live_tri
  unkept_quad x h = quad_cell x.cell h

  -- a flip has no quad among the owners
  one_quad : (x y : Live) (c d : Cell) → (not (is_tri c) || (not (is_tri d) || false)) ≡ true → flip_cells m e x.slot c y.slot d ≡ none
  unfolding flip_cells is_tri
  one_quad x y (tri s) (tri t) k = let z : ◌≡◌ {A = ℕ} 0 1 = cc in absurd (omega arith)
  one_quad x y (tri s) (quad q) k = refl
  one_quad x y (quad q) d k = refl

  pub two_tris : (xs : List Live) → any (λ x. not (live_tri x)) xs ≡ true → flip_owners m e xs ≡ none
  unfolding flip_owners any live_tri
  two_tris [] h = refl
  two_tris (x ∷ []) h = refl
  two_tris (x ∷ y ∷ []) h = one_quad x y x.cell y.cell h
  two_tris (x ∷ y ∷ z ∷ more) h = refl

  hidden_owner : (xs : List Live) → any (λ x. not (kept x) && owns e x) xs ≡ true → any (λ x. not (live_tri x)) (filter (owns e) xs) ≡ true
  unfolding any filter
  hidden_owner [] h = h
  hidden_owner (x ∷ xs) h = elim (which (owns e x)) [
    | inl f ↦ elim (which (kept x)) [
      | inl g ↦ elim (which (live_tri x)) [ inl k ↦ rw (f, k) (hidden_owner xs (rw (f, g) at h)) | inr k ↦ rw (f, k) refl ]
      | inr g ↦ rw (f, unkept_quad x g) refl
    ]
    | inr f ↦ elim (which (kept x)) [ inl g ↦ rw f (hidden_owner xs (rw (f, g) at h)) | inr g ↦ rw f (hidden_owner xs (rw (f, g) at h)) ]
  ]

  -- where one is not, there is none
  pub hidden_flip : hidden m e ≡ true → flip m e ≡ none
  unfolding hidden flip owners
  hidden_flip h = elim (which (is_locked m e)) [
    | inl f ↦ rw f refl
    | inr f ↦ rw f (two_tris (owners m e) (hidden_owner m.live h))
  ]
