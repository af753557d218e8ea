-- What a flip that is made says of the mesh.
use Rattle.std.specs.Prelude.{◌≡◌, ◌≢◌, ◌&&◌, ◌∷◌}
use Rattle.laws.specs.Kit.{refl, sym, ◌∙◌, ap, subst, inl, inr, Bool, true, false, not, none, some, ℕ, eqb, eq-eqb, eqb-true, List, []}
use Rattle.definition.specs.Plane.{Edge}
use Rattle.definition.specs.Cells.{Tri, Cell, tri, quad, Live, Event, was_flipped, Mesh, new_tri, owners, is_locked, live_tri, is_tri, new_live, in_slot, with_live, noting, without, set_cell}
use Rattle.definition.specs.Flips.{third, apart, convex_pair, runs, first_turned, second_turned, set_tris, flipped, flip_tris, flip_cells, flip_owners, flip}
use Rattle.laws.specs.Bools.{which, both, never}
use Rattle.laws.specs.Lists.{In, in_left, in_right, filter_in, no_some}
use Rattle.account.specs.Triangles.{Corners, Distinct}
use Rattle.account.proofs.Triangles.{corners, turn}
use Rattle.account.specs.Flips.{Flipped, TriAt}

-- ---- the two triangles on the other diagonal
pub new_distinct : {a b c : ℕ} → a ≢ b → b ≢ c → c ≢ a → Distinct (new_tri a b c)
unfolding new_tri
new_distinct x y z = record { d01 = x; d12 = y; d20 = z }

module _ (e : Edge) (p q : ℕ) where
  first_corners : (b : Bool) → Corners (first_turned b e p q) p e.0 q
  unfolding first_turned
  first_corners true = corners p e.0 q
  first_corners false = turn _ p q e.0 (corners p q e.0)

  second_corners : (b : Bool) → Corners (second_turned b e p q) q e.1 p
  unfolding second_turned
  second_corners true = corners q e.1 p
  second_corners false = turn _ q p e.1 (corners q p e.1)

  first_distinct : (b : Bool) → p ≢ q → p ≢ e.0 → q ≢ e.0 → Distinct (first_turned b e p q)
  unfolding first_turned
  first_distinct true pq x y = new_distinct x (λ z. y (sym z)) (λ z. pq (sym z))
  first_distinct false pq x y = new_distinct pq y (λ z. x (sym z))

  second_distinct : (b : Bool) → p ≢ q → p ≢ e.1 → q ≢ e.1 → Distinct (second_turned b e p q)
  unfolding second_turned
  second_distinct true pq x y = new_distinct y (λ z. x (sym z)) pq
  second_distinct false pq x y = new_distinct (λ z. pq (sym z)) x (λ z. y (sym z))

-- ---- a flip that is made
-- a locked edge stays, any other flips by its owners
pub locked_flip : (m : Mesh) (e : Edge) → is_locked m e ≡ true → flip m e ≡ none
unfolding flip
locked_flip m e h = rw h refl

pub free_flip : (m : Mesh) (e : Edge) → is_locked m e ≡ false → flip m e ≡ flip_owners m e (owners m e)
unfolding flip
free_flip m e h = rw h refl

module _ (m : Mesh) (e : Edge) (m' : Mesh) where
  convex_differ : (p q : ℕ) → convex_pair m e.0 e.1 p q ≡ true → p ≢ q
  unfolding convex_pair
  convex_differ p q f g = never (not (eqb p q)) (both (not (eqb p q)) _ (both (not (eqb p q) && apart m e.0 e.1 p q) _ f).0).0 (rw (eq-eqb p q g) refl)

  tris_flipped : (x y : Live) (s t : Tri) → owners m e ≡ x ∷ y ∷ [] → x.cell ≡ tri s → y.cell ≡ tri t → flip_tris m e x.slot s y.slot t ≡ some m' → Flipped m e m'
  unfolding flip_tris flipped
  tris_flipped x y s t own cx cy h =
      let p = third s e in
      let q = third t e in
      let b = runs s e in
      elim (which (convex_pair m e.0 e.1 p q)) [
        | inr f ↦ no_some m' (rw f at h)
        | inl f ↦
            let pq = convex_differ p q f in
            let g : some (noting (was_flipped e) (set_tris m x.slot (first_turned b e p q) y.slot (second_turned b e p q))) ≡ some m' = rw f at h in
            record {
              x = x;
              y = y;
              s = s;
              t = t;
              s' = first_turned b e p q;
              t' = second_turned b e p q;
              owned = own;
              cell_x = cx;
              cell_y = cy;
              convex = f;
              differ = pq;
              corners_s = first_corners e p q b;
              corners_t = second_corners e p q b;
              distinct_s = first_distinct e p q b pq;
              distinct_t = second_distinct e p q b pq;
              after = cc;
            }
      ]

  cells_flipped : (x y : Live) (c d : Cell) → owners m e ≡ x ∷ y ∷ [] → x.cell ≡ c → y.cell ≡ d → flip_cells m e x.slot c y.slot d ≡ some m' → Flipped m e m'
  unfolding flip_cells
  cells_flipped x y (tri s) (tri t) own cx cy h = tris_flipped x y s t own cx cy h
  cells_flipped x y (tri s) (quad q) own cx cy h = no_some m' h
  cells_flipped x y (quad q) d own cx cy h = no_some m' h

  owners_flipped : (xs : List Live) → owners m e ≡ xs → flip_owners m e xs ≡ some m' → Flipped m e m'
  unfolding flip_owners
  owners_flipped [] own h = no_some m' h
  owners_flipped (x ∷ []) own h = no_some m' h
  owners_flipped (x ∷ y ∷ []) own h = cells_flipped x y x.cell y.cell own refl refl h
  owners_flipped (x ∷ y ∷ z ∷ more) own h = no_some m' h

  -- a flip that is made is of an edge that is not locked
  pub flip_free : flip m e ≡ some m' → is_locked m e ≡ false
  unfolding flip
  flip_free h = elim (which (is_locked m e)) [ inl f ↦ no_some m' (rw f at h) | inr f ↦ f ]

  -- a flip that is made is of an edge with two owners, both triangles
  pub flip_made : flip m e ≡ some m' → Flipped m e m'
  unfolding flip
  flip_made h = owners_flipped (owners m e) refl (rw (flip_free h) at h)

  -- the points and the slots in use stay
  pub flip_points : flip m e ≡ some m' → m'.points ≡ m.points
  unfolding set_tris set_cell with_live noting
  flip_points h = ap (λ n. n.points) (flip_made h).after

  pub flip_used : flip m e ≡ some m' → m'.used ≡ m.used
  unfolding set_tris set_cell with_live noting
  flip_used h = ap (λ n. n.used) (flip_made h).after

set_tri_at : (m : Mesh) (i id : ℕ) (t : Tri) → TriAt m id → TriAt (set_cell m i (tri t)) id
unfolding set_cell with_live new_live live_tri is_tri without in_slot
set_tri_at m i id t h =
    let l = new_live i (tri t) in
    elim (which (eqb i h.x.slot)) [
      | inl e ↦ record { x = l; at = in_right l (without i m.live) (l ∷ []) (inl refl); slot_is = eqb-true i h.x.slot e ∙ h.slot_is; is_one = refl }
      | inr e ↦ record { x = h.x; at = in_left h.x (without i m.live) (l ∷ []) (filter_in (λ z. not (eqb i z.slot)) m.live h.at (ap not e)); slot_is = h.slot_is; is_one = h.is_one }
    ]

noted_tri_at : (m : Mesh) (v : Event) (id : ℕ) → TriAt m id → TriAt (noting v m) id
unfolding noting
noted_tri_at m v id h = record { x = h.x; at = h.at; slot_is = h.slot_is; is_one = h.is_one }

pub flip_tri_at : (m : Mesh) (e : Edge) (m' : Mesh) (id : ℕ) → flip m e ≡ some m' → TriAt m id → TriAt m' id
unfolding set_tris
flip_tri_at m e m' id f h =
    let w = flip_made m e m' f in
    subst (λ n. TriAt n id) (sym w.after)
    (noted_tri_at (set_tris m w.x.slot w.s' w.y.slot w.t') (was_flipped e) id
    (set_tri_at (set_cell m w.x.slot (tri w.s')) w.y.slot id w.t' (set_tri_at m w.x.slot id w.s' h)))
