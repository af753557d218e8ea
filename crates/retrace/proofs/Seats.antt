-- The slots and the quads of the live cells, as cells come and go.
use Rattle.std.specs.Prelude.{◌≡◌, ◌<◌, ◌∷◌, ◌++◌}
use Rattle.laws.specs.Kit.{refl, sym, ◌∙◌, ap, subst, inl, inr, Bool, true, false, some, ℕ, suc, arith, eqb, eqb-true, not-false, List, [], append-nil}
use Rattle.rings.specs.Rings.{Out, Distinct, Below, without as without_number}
use Rattle.rings.proofs.Lists.{below_append, distinct_snoc, below_without, distinct_without, out_self}
use Rattle.definition.specs.Lists.{filter, flat_map}
use Rattle.definition.specs.Cells.{Tri, Quad, Cell, tri, quad, Live, Mesh, new_live, is_tri, live_tri, in_slot, cell_of, with_live, without, set_cell, push_cell, remove_cell}
use Rattle.laws.specs.Bools.{which, never}
use Rattle.laws.specs.Lists.{In, in_either, in_filter, filter_yes, filter_no, flat_map_append}
use Rattle.cells.specs.Rep.{slots}
use Rattle.cells.proofs.Slots.{slots_without, in_has, cell_is, distinct_filter}
use Rattle.cells.proofs.Corners.{slots_append, below_weaken}
use Rattle.retrace.specs.Plays.{quad_in, quads_of}

-- ---- slots

-- every cell has a slot of its own, and it was given out
pub record Seats (m : Mesh) : Type 0 where
  pub distinct : Distinct (slots m.live)
  pub below : Below m.used (slots m.live)

out_below : (a : ℕ) (l : List ℕ) → Below a l → Out a l
out_below a [] h = tt
out_below a (x ∷ l) h = (λ e. omega (arith, h.0), out_below a l h.1)

-- a live cell's slot was given out
pub slot_given : (k : ℕ) (l : List Live) (x : Live) → Below k (slots l) → In x l → x.slot < k
slot_given k [] x b x4 = elim x4 [ ]
slot_given k (y ∷ l) x b (inl e) = subst (λ (z : Live). z.slot < k) (sym e) b.0
slot_given k (y ∷ l) x b (inr i) = slot_given k l x b.1 i

slots_filter_below : (f : Live → Bool) (k : ℕ) (l : List Live) → Below k (slots l) → Below k (slots (filter f l))
unfolding filter
slots_filter_below f k [] d = tt
slots_filter_below f k (x ∷ l) d = elim (which (f x)) [
  | inl e ↦ rw e ((d.0, slots_filter_below f k l d.1))
  | inr e ↦ rw e (slots_filter_below f k l d.1)
]

module _ (m : Mesh) (h : Seats m) where
  pub seats_set : (i : ℕ) (c : Cell) → i < m.used → Seats (set_cell m i c)
  unfolding set_cell with_live new_live
  seats_set i c l =
      let are : slots (without i m.live ++ (new_live i c ∷ [])) ≡ without_number i (slots m.live) ++ i ∷ [] =
      slots_append (without i m.live) (new_live i c ∷ []) ∙ ap (λ (z : List ℕ). z ++ i ∷ []) (slots_without i m.live) in
      record {
        distinct = subst Distinct (sym are) (distinct_snoc (without_number i (slots m.live)) i (distinct_without i (slots m.live) h.distinct) (out_self i (slots m.live)));
        below = subst (Below m.used) (sym are) (below_append m.used (without_number i (slots m.live)) (i ∷ []) (below_without i m.used (slots m.live) h.below) ((l, tt)));
      }

  pub seats_push : (c : Cell) → Seats (push_cell m c)
  unfolding push_cell with_live new_live
  seats_push c =
      let n = m.used in
      let are : slots (m.live ++ (new_live n c ∷ [])) ≡ slots m.live ++ n ∷ [] = slots_append m.live (new_live n c ∷ []) in
      record {
        distinct = subst Distinct (sym are) (distinct_snoc (slots m.live) n h.distinct (out_below n (slots m.live) h.below));
        below = subst (Below (suc n)) (sym are) (below_append (suc n) (slots m.live) (n ∷ []) (below_weaken n (suc n) (slots m.live) (omega arith) h.below) ((omega arith, tt)));
      }

  pub seats_take : (i : ℕ) → Seats (remove_cell m i)
  unfolding remove_cell with_live without
  seats_take i =
      record {
        distinct = distinct_filter _ m.live h.distinct;
        below = slots_filter_below _ m.used m.live h.below;
      }

  -- a mesh with the same cells and as many slots
  pub seats_as : (m' : Mesh) → m'.live ≡ m.live → m'.used ≡ m.used → Seats m'
  seats_as m' e f =
      record {
        distinct = subst (λ (l : List Live). Distinct (slots l)) (sym e) h.distinct;
        below = subst (λ (l : List Live). Below m'.used (slots l)) (sym e) (subst (λ (n : ℕ). Below n (slots m.live)) (sym f) h.below);
      }

-- ---- quads

-- whatever is in slot i is a triangle
abbrev pub TriSlot : Mesh → ℕ → Type 0
TriSlot m i = (x : Live) → In x m.live → x.slot ≡ i → live_tri x ≡ true

-- a slot that has a triangle
pub tri_slot : (m : Mesh) (x : Live) → Distinct (slots m.live) → In x m.live → live_tri x ≡ true → TriSlot m x.slot
tri_slot m x d i t y j e =
    let a : some y ≡ some x = sym (cell_is m d (in_has y m.live j)) ∙ ap (cell_of m) e ∙ cell_is m d (in_has x m.live i) in
    let b : y ≡ x = cc in
    ap live_tri b ∙ t

no_quad : (x : Live) → live_tri x ≡ true → quad_in x.cell ≡ []
unfolding live_tri is_tri quad_in
no_quad x h = go x.cell h
  where
    go : (c : Cell) → is_tri c ≡ true → quad_in c ≡ []
    go (tri t) e = refl
    go (quad q) e = never false e refl

quads_skip : (x : Live) (l : List Live) → live_tri x ≡ true → quads_of (x ∷ l) ≡ quads_of l
unfolding quads_of flat_map
quads_skip x l h = ap (λ (z : List Quad). z ++ quads_of l) (no_quad x h)

-- triangles that go leave the quads
pub quads_filter : (f : Live → Bool) (l : List Live) → ((x : Live) → In x l → f x ≡ false → live_tri x ≡ true) → quads_of (filter f l) ≡ quads_of l
unfolding filter quads_of flat_map
quads_filter f [] h = refl
quads_filter f (x ∷ l) h =
    let next = quads_filter f l (λ y i. h y (inr i)) in
    elim (which (f x)) [
      | inl e ↦ ap quads_of (filter_yes f x l e) ∙ ap (λ (z : List Quad). quad_in x.cell ++ z) next
      | inr e ↦ ap quads_of (filter_no f x l e) ∙ next ∙ sym (quads_skip x l (h x (inl refl) e))
    ]

pub quads_last : (l : List Live) (x : Live) → quads_of (l ++ (x ∷ [])) ≡ quads_of l ++ quad_in x.cell
unfolding quads_of flat_map
quads_last l x = flat_map_append (λ y. quad_in y.cell) l (x ∷ []) ∙ ap (λ (z : List Quad). quads_of l ++ z) (append-nil (quad_in x.cell))

pub quads_without : (m : Mesh) (i : ℕ) → TriSlot m i → quads_of (without i m.live) ≡ quads_of m.live
unfolding without in_slot
quads_without m i h = quads_filter _ m.live (λ x j e. h x j (sym (eqb-true i x.slot (not-false (eqb i x.slot) e))))

pub quads_set : (m : Mesh) (i : ℕ) (t : Tri) → TriSlot m i → quads_of (set_cell m i (tri t)).live ≡ quads_of m.live
unfolding set_cell with_live new_live quad_in
quads_set m i t h = quads_last (without i m.live) (new_live i (tri t)) ∙ append-nil (quads_of (without i m.live)) ∙ quads_without m i h

pub quads_push : (m : Mesh) (c : Cell) → quads_of (push_cell m c).live ≡ quads_of m.live ++ quad_in c
unfolding push_cell with_live new_live
quads_push m c = quads_last m.live (new_live m.used c)

pub quads_tri : (m : Mesh) (t : Tri) → quads_of (push_cell m (tri t)).live ≡ quads_of m.live
unfolding quad_in
quads_tri m t = quads_push m (tri t) ∙ append-nil (quads_of m.live)

-- a slot with a triangle keeps one
pub still_tri : (m : Mesh) (i j : ℕ) (t : Tri) → TriSlot m j → TriSlot (set_cell m i (tri t)) j
unfolding set_cell with_live without new_live live_tri is_tri
still_tri m i j t h x k e = elim (in_either x (without i m.live) (new_live i (tri t) ∷ []) k) [
  | inl a ↦ h x (in_filter _ m.live a).0 e
  | inr (inl a) ↦ ap live_tri a
  | inr (inr x3) ↦ elim x3 [ ]
]
