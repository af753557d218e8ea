-- What the kind and the nodes in a slot say of the mesh, and what an answer of `tri_owner` does.
use mathlib.Core.Path.{◌≡◌, refl, ap, sym, ◌∙◌, subst}
use mathlib.Core.Logic.{◌≢◌, inl, inr}
use mathlib.Core.Bool.{Bool, true, false, false≢true}
use mathlib.Core.List.{List, [], ◌∷◌, ◌++◌}
use mathlib.Core.Option.{Option, none, some}
use Prim.Native.Nat.{ℕ, suc, ◌+◌, ◌≤◌, ◌<◌}
use native.Mathlib.Omega.{arith}
use lib.ListN.{length, get_or, length-append, get_or-append}
use borrow.Author.Tests.{eq-eqb, ne_eqb}
use Rattle.rings.specs.Rings.{Out, Distinct, without, Below}
use Rattle.rings.proofs.Lists.{Same, same, differ, decide, without_hit, without_miss}
use Rattle.definition.specs.Plane.{Node, Edge, point}
use Rattle.definition.specs.Lists.{filter, find, first}
use Rattle.definition.specs.Cells.{Tri, Quad, Cell, tri, quad, Live, Mesh, node_at, nodes, tri_nodes, quad_nodes, new_live, is_tri, live_tri, in_slot, cell_of, owns, owners, tri_owners, tri_owner, without as without_slot, Event, noting}
use Rattle.definition.specs.Insertion.{with_point}
use Rattle.laws.specs.Lists.{filter_yes, filter_no, In}
use Rattle.laws.specs.Bools.{which}
use Rattle.cells.proofs.Notes.{grown_same}
use Rattle.cells.specs.Layout.{Sizes}
use Rattle.cells.specs.Rep.{CellAt, Held, slots, Has, here, there, Room, Rep, TriIn, QuadIn, Cells}
use Rattle.cells.specs.Walk.{node_in, CanSee, slot_or}
use Rattle.cells.proofs.Members.{Lookup, absent, present, lookup, has_held}
use Rattle.cells.proofs.Frames.{rep_as}

-- what an area's offset asks
pub sizes : (w : List ℕ) (s p : ℕ) → Room w s p → Sizes s p
sizes w s p r = record { slots = omega (arith, r.small); points = omega (arith, r.small) }

-- ---- members

has_step : (f : Live → Bool) (x y : Live) (l k : List Live) → Has x (y ∷ k) → f y ≡ true → (Has x k → Has x l × (f x ≡ true)) → Has x (y ∷ l) × (f x ≡ true)
has_step f x y l k here e r = (here, e)
has_step f x y l k (there h) e r = let z = r h in (there z.0, z.1)

pub has_filter : (f : Live → Bool) {x : Live} (l : List Live) → Has x (filter f l) → Has x l × (f x ≡ true)
unfolding filter
has_filter f {x = x} [] h = elim h [ ]
has_filter f {x} (y ∷ l) h = go (f y) refl (has_filter f l)
  where
    go : (b : Bool) → f y ≡ b → (Has x (filter f l) → Has x l × (f x ≡ true)) → Has x (y ∷ l) × (f x ≡ true)
    go true e r = has_step f x y l (filter f l) (rw (filter_yes f y l e) at h) e r
    go false e r = let z = r (rw (filter_no f y l e) at h) in (there z.0, z.1)

first_has : (l : List Live) {x : Live} → first l ≡ some x → Has x l
unfolding first
first_has [] {x} z = let y : ◌≡◌ {A = ℕ} 0 1 = cc in absurd (omega arith)
first_has (y ∷ l) {x} z = let k : y ≡ x = cc in subst (λ (v : Live). Has x (v ∷ l)) (sym k) here

-- an owner is live
pub owner_live : (m : Mesh) (e : Edge) {x : Live} → Has x (owners m e) → Has x m.live
unfolding owners
owner_live m e h = (has_filter (owns e) m.live h).0

pub out_has : (i : ℕ) {x : Live} {l : List Live} → Out i (slots l) → Has x l → x.slot ≢ i
out_has i o here = o.0
out_has i o (there h) = out_has i o.1 h

-- a live cell is the one of its slot
pub cell_is : (m : Mesh) {x : Live} → Distinct (slots m.live) → Has x m.live → cell_of m x.slot ≡ some x
unfolding cell_of find in_slot
cell_is m {x} d h = go m.live d h
  where
    go : (l : List Live) → Distinct (slots l) → Has x l → find (in_slot x.slot) l ≡ some x
    go [] d x3 = elim x3 [ ]
    go (y ∷ l) d here = rw (eq-eqb x.slot x.slot refl)
    go (y ∷ l) d (there k) = rw (ne_eqb x.slot y.slot (out_has y.slot d.0 k)) (go l d.1 k)

-- ---- a slot's kind and nodes

-- the three nodes are read
pub record ReadTri (w : List ℕ) (s i : ℕ) (t : Tri) : Type 0 where
  pub kind : get_or w i 0 ≡ 3
  pub n0 : node_in w s i 0 ≡ t.n0
  pub n1 : node_in w s i 1 ≡ t.n1
  pub n2 : node_in w s i 2 ≡ t.n2

pub record ReadQuad (w : List ℕ) (s i : ℕ) (q : Quad) : Type 0 where
  pub kind : get_or w i 0 ≡ 4
  pub n0 : node_in w s i 0 ≡ q.n0
  pub n1 : node_in w s i 1 ≡ q.n1
  pub n2 : node_in w s i 2 ≡ q.n2
  pub n3 : node_in w s i 3 ≡ q.n3

pub read_tri : (w : List ℕ) (s i : ℕ) (t : Tri) → CellAt w s i (tri t) → ReadTri w s i t
unfolding nodes tri_nodes
read_tri w s i t h = record { kind = h.kind; n0 = h.node 0 (omega arith); n1 = h.node 1 (omega arith); n2 = h.node 2 (omega arith) }

pub read_quad : (w : List ℕ) (s i : ℕ) (q : Quad) → CellAt w s i (quad q) → ReadQuad w s i q
unfolding nodes quad_nodes
read_quad w s i q h =
    record { kind = h.kind; n0 = h.node 0 (omega arith); n1 = h.node 1 (omega arith); n2 = h.node 2 (omega arith); n3 = h.node 3 (omega arith) }

module _ (w : List ℕ) (s p : ℕ) (m : Mesh) (r : Rep w s p m) where
  pub rep_held : {x : Live} → Has x m.live → Held w s m.used (length m.points) x
  rep_held h = has_held w s m.used (length m.points) h r.cells

  pub rep_cell : {x : Live} → Has x m.live → cell_of m x.slot ≡ some x
  rep_cell h = cell_is m r.distinct h

  -- a slot that was given out may be read
  pub rep_see : (i : ℕ) → i < s → CanSee w s i
  rep_see i h = record { fits = omega (arith, r.room.fits); inside = h }

  pub tri_held : (i : ℕ) (t : TriIn m i) → ReadTri w s i t.t
  unfolding new_live
  tri_held i t = read_tri w s i t.t (rep_held t.has).at

  pub quad_held : (i : ℕ) (q : QuadIn m i) → ReadQuad w s i q.q
  unfolding new_live
  quad_held i q = read_quad w s i q.q (rep_held q.has).at

  pub tri_in : (i : ℕ) → i < s → get_or w i 0 ≡ 3 → TriIn m i
  unfolding new_live
  tri_in i is k = go (lookup i m.live)
    where
      at_slot : (x : Live) (t : Cell) → x.cell ≡ t → x.slot ≡ i → Has x m.live → TriIn m i
      at_slot x (tri t) e q h =
          record { t = t; has = subst (λ (c : Cell). Has (new_live i c) m.live) e (subst (λ (j : ℕ). Has (new_live j x.cell) m.live) q h) }
      at_slot x (quad t) e q h =
          let z : CellAt w s x.slot (quad t) = subst (λ (c : Cell). CellAt w s x.slot c) e (rep_held h).at in
          let y : get_or w i 0 ≡ 4 = ap (λ (j : ℕ). get_or w j 0) (sym q) ∙ (read_quad w s x.slot t z).kind in
          absurd (omega arith)

      go : Lookup i m.live → TriIn m i
      go (absent o) = absurd (omega (arith, r.dead i is o))
      go (present x q h) = at_slot x x.cell refl q h

  pub quad_in : (i : ℕ) → i < s → get_or w i 0 ≡ 4 → QuadIn m i
  unfolding new_live
  quad_in i is k = go (lookup i m.live)
    where
      at_slot : (x : Live) (t : Cell) → x.cell ≡ t → x.slot ≡ i → Has x m.live → QuadIn m i
      at_slot x (quad t) e q h =
          record { q = t; has = subst (λ (c : Cell). Has (new_live i c) m.live) e (subst (λ (j : ℕ). Has (new_live j x.cell) m.live) q h) }
      at_slot x (tri t) e q h =
          let z : CellAt w s x.slot (tri t) = subst (λ (c : Cell). CellAt w s x.slot c) e (rep_held h).at in
          let y : get_or w i 0 ≡ 3 = ap (λ (j : ℕ). get_or w j 0) (sym q) ∙ (read_tri w s x.slot t z).kind in
          absurd (omega arith)

      go : Lookup i m.live → QuadIn m i
      go (absent o) = absurd (omega (arith, r.dead i is o))
      go (present x q h) = at_slot x x.cell refl q h

  pub none_in : (i : ℕ) → get_or w i 0 ≢ 3 → get_or w i 0 ≢ 4 → Out i (slots m.live)
  none_in i k l = go (lookup i m.live)
    where
      at_slot : (x : Live) (t : Cell) → x.cell ≡ t → x.slot ≡ i → Has x m.live → ⊥
      at_slot x (tri t) e q h =
          k (ap (λ (j : ℕ). get_or w j 0) (sym q) ∙ (read_tri w s x.slot t (subst (λ (c : Cell). CellAt w s x.slot c) e (rep_held h).at)).kind)
      at_slot x (quad t) e q h =
          l (ap (λ (j : ℕ). get_or w j 0) (sym q) ∙ (read_quad w s x.slot t (subst (λ (c : Cell). CellAt w s x.slot c) e (rep_held h).at)).kind)

      go : Lookup i m.live → Out i (slots m.live)
      go (absent o) = o
      go (present x q h) = absurd (at_slot x x.cell refl q h)

  -- a point more
  pub rep_point : (x : Node) → length m.points < p → Rep w s p (with_point m x)
  unfolding with_point node_at point
  rep_point x h =
      let e : length (m.points ++ (x ∷ [])) ≡ length m.points + 1 = length-append m.points (x ∷ []) in
      rep_as w s p m (with_point m x) r (omega arith) r.used (record { more = omega arith; same = λ v l. get_or-append m.points (x ∷ []) _ v l }) (omega arith) refl

  -- ---- the answer of tri_owner

  -- the triangle that owns the edge
  pub record Found (e : Edge) (i : ℕ) : Type 0 where
    pub t : Tri
    pub has : Has (new_live i (tri t)) m.live
    pub is : tri_owner m e ≡ some (new_live i (tri t))

  pub owner_found : (e : Edge) (i : ℕ) → i ≡ slot_or s (tri_owner m e) → i < s → Found e i
  unfolding new_live live_tri is_tri tri_owner tri_owners
  owner_found e i q h = go (tri_owner m e) refl
    where
      a_tri : (x : Live) (t : Cell) → x.cell ≡ t → live_tri x ≡ true → x.slot ≡ i → Has x m.live → tri_owner m e ≡ some x → Found e i
      a_tri x (tri t) z y k a b =
          let g : x ≡ new_live i (tri t) = ap (λ (c : Cell). new_live x.slot c) z ∙ ap (λ (j : ℕ). new_live j (tri t)) k in
          record { t = t; has = subst (λ (v : Live). Has v m.live) g a; is = b ∙ ap some g }
      a_tri x (quad t) z y k a b = absurd (false≢true (sym (ap is_tri z) ∙ y))

      go : (o : Option Live) → tri_owner m e ≡ o → Found e i
      go none z = let y : i ≡ s = q ∙ ap (slot_or s) z in absurd (omega arith)
      go (some x) z =
          let k = has_filter live_tri (owners m e) (first_has (tri_owners m e) z) in
          let y : i ≡ x.slot = q ∙ ap (slot_or s) z in
          a_tri x x.cell refl k.1 (sym y) (owner_live m e k.0) z

  pub owner_none : (e : Edge) (i : ℕ) → i ≡ slot_or s (tri_owner m e) → s ≤ i → tri_owner m e ≡ none
  unfolding tri_owner tri_owners
  owner_none e i q h = go (tri_owner m e) refl
    where
      go : (o : Option Live) → tri_owner m e ≡ o → tri_owner m e ≡ none
      go none z = z
      go (some x) z =
          let k = has_filter live_tri (owners m e) (first_has (tri_owners m e) z) in
          let y : i ≡ x.slot = q ∙ ap (slot_or s) z in
          absurd (omega (arith, (rep_held (owner_live m e k.0)).inside, r.used))

-- no cell is found in a slot that none has
pub find_out : (i : ℕ) (l : List Live) → Out i (slots l) → find (in_slot i) l ≡ none
unfolding find in_slot
find_out i [] o = refl
find_out i (x ∷ l) o = rw (ne_eqb i x.slot (λ e. o.0 (sym e))) (find_out i l o.1)

pub cell_none : (m : Mesh) (i : ℕ) → Out i (slots m.live) → cell_of m i ≡ none
unfolding cell_of
cell_none m i o = find_out i m.live o

pub cell_some : (w : List ℕ) (s p : ℕ) (m : Mesh) → Rep w s p m → (i : ℕ) (x : Live) → x.slot ≡ i → Has x m.live → cell_of m i ≡ some x
cell_some w s p m r i x q h = subst (λ (j : ℕ). cell_of m j ≡ some x) q (rep_cell w s p m r h)

-- an event that is noted changes nothing that the memory stands for
pub rep_noting : (v : Event) (m : Mesh) (w : List ℕ) (s p : ℕ) → Rep w s p m → Rep w s p (noting v m)
unfolding noting
rep_noting v m w s p r = rep_as w s p m (noting v m) r (omega arith) r.used (grown_same m (noting v m) refl) r.points refl

-- ---- live cells and their slots

pub slots_length : (l : List Live) → length (slots l) ≡ length l
slots_length [] = refl
slots_length (x ∷ l) = ap suc (slots_length l)

pub slots_below : (w : List ℕ) (s k n : ℕ) (l : List Live) → Cells w s k n l → Below k (slots l)
slots_below w s k n [] h = tt
slots_below w s k n (x ∷ l) h = (h.0.inside, slots_below w s k n l h.1)

-- a filter of the cells keeps a slot out, the slots apart and below a number
pub out_filter : (f : Live → Bool) (i : ℕ) (l : List Live) → Out i (slots l) → Out i (slots (filter f l))
unfolding filter
out_filter f i [] o = tt
out_filter f i (x ∷ l) o = elim (which (f x)) [
  | inl e ↦ rw e ((o.0, out_filter f i l o.1))
  | inr e ↦ rw e (out_filter f i l o.1)
]

pub distinct_filter : (f : Live → Bool) (l : List Live) → Distinct (slots l) → Distinct (slots (filter f l))
unfolding filter
distinct_filter f [] d = tt
distinct_filter f (x ∷ l) d = elim (which (f x)) [
  | inl e ↦ rw e ((out_filter f x.slot l d.0, distinct_filter f l d.1))
  | inr e ↦ rw e (distinct_filter f l d.1)
]

pub slot_hit : (i : ℕ) (x : Live) (l : List Live) → x.slot ≡ i → without_slot i (x ∷ l) ≡ without_slot i l
unfolding without_slot filter in_slot
slot_hit i x l q = rw (eq-eqb i x.slot (sym q))

pub slot_miss : (i : ℕ) (x : Live) (l : List Live) → x.slot ≢ i → without_slot i (x ∷ l) ≡ x ∷ without_slot i l
unfolding without_slot filter in_slot
slot_miss i x l q = rw (ne_eqb i x.slot (λ e. q (sym e)))

pub slots_without : (c : ℕ) (l : List Live) → slots (without_slot c l) ≡ without c (slots l)
unfolding without without_slot filter
slots_without c [] = refl
slots_without c (e ∷ l) = go (decide e.slot c) (slots_without c l)
  where
    go : Same e.slot c → slots (without_slot c l) ≡ without c (slots l) → slots (without_slot c (e ∷ l)) ≡ without c (slots (e ∷ l))
    go (same q) r = ap slots (slot_hit c e l q) ∙ r ∙ sym (without_hit c e.slot (slots l) q)
    go (differ q) r = ap slots (slot_miss c e l q) ∙ ap (λ (k : List ℕ). e.slot ∷ k) r ∙ sym (without_miss c e.slot (slots l) q)

-- two words for a member
pub in_has : (x : Live) (l : List Live) → In x l → Has x l
in_has x [] x'' = elim x'' [ ]
in_has x (y ∷ l) (inl e) = subst (λ (z : Live). Has x (z ∷ l)) e here
in_has x (y ∷ l) (inr i) = there (in_has x l i)
