-- Slots given up one after the other are the definition's: each has a triangle, and none stands twice.
use Rattle.std.specs.Prelude.{◌≡◌, ◌&&◌, ◌||◌, ◌∷◌, ◌++◌}
use Rattle.laws.specs.Kit.{refl, sym, ◌∙◌, ap, ap₂, inl, inr, Bool, true, false, not, cond, Option, none, some, ℕ, arith, eqb, eq-eqb, eqb-true, List, []}
use Rattle.definition.specs.Lists.{filter, any, all, find, flat_map, contains}
use Rattle.definition.specs.Cells.{Live, Mesh, in_slot, cell_of, with_live, without, among, without_all, remove_cell, remove_cells}
use Rattle.definition.specs.Replay.{cells_in, all_different, triangles_in}
use Rattle.laws.specs.Bools.{which}
use Rattle.laws.specs.Cells.{none_gone, found_slot}
use Rattle.laws.specs.Lists.{known}
use Rattle.laws.specs.Numbers.{eqb_swap}
use Rattle.retrace.specs.Takes.{has_tri, taking}

-- ---- a slot's cell, once a slot is empty

find_gone : (i : ℕ) (xs : List Live) → find (in_slot i) (without i xs) ≡ none
unfolding find without filter in_slot
find_gone i [] = refl
find_gone i (x ∷ xs) = elim (which (eqb i x.slot)) [ inl e ↦ rw e (find_gone i xs) | inr e ↦ rw (e, e) (find_gone i xs) ]

find_other : (i j : ℕ) (xs : List Live) → eqb i j ≡ false → find (in_slot j) (without i xs) ≡ find (in_slot j) xs
unfolding find without filter in_slot
find_other i j [] h = refl
find_other i j (x ∷ xs) h = elim (which (eqb i x.slot)) [
  | inl e ↦ elim (which (eqb j x.slot)) [
    | inl f ↦ absurd (clash e f)
    | inr f ↦ rw (e, f) (find_other i j xs h)
  ]
  | inr e ↦ elim (which (eqb j x.slot)) [ inl f ↦ rw (e, f) refl | inr f ↦ rw (e, f) (find_other i j xs h) ]
]
  where
    clash : eqb i x.slot ≡ true → eqb j x.slot ≡ true → ⊥
    clash e f =
        let same : i ≡ j = eqb-true i x.slot e ∙ sym (eqb-true j x.slot f) in
        let z : true ≡ false = sym (eq-eqb i j same) ∙ h in
        let y : ◌≡◌ {A = ℕ} 0 1 = cc in
        omega arith

gone_cell : (m : Mesh) (i : ℕ) → cell_of (remove_cell m i) i ≡ none
unfolding cell_of remove_cell with_live
gone_cell m i = find_gone i m.live

other_cell : (m : Mesh) (i j : ℕ) → eqb i j ≡ false → cell_of (remove_cell m i) j ≡ cell_of m j
unfolding cell_of remove_cell with_live
other_cell m i j h = find_other i j m.live h

has_gone : (m : Mesh) (i : ℕ) → has_tri (remove_cell m i) i ≡ false
unfolding has_tri cells_in flat_map any
has_gone m i = rw (gone_cell m i) refl

has_other : (m : Mesh) (i j : ℕ) → eqb i j ≡ false → has_tri (remove_cell m i) j ≡ has_tri m j
unfolding has_tri cells_in flat_map any
has_other m i j h = rw (other_cell m i j h) refl

-- ---- the tests of the definition

tris_first : (m : Mesh) (i : ℕ) (ids : List ℕ) → triangles_in m (i ∷ ids) ≡ (has_tri m i && triangles_in m ids)
unfolding triangles_in all has_tri
tris_first m i ids = refl

-- once slot i is empty the others must not name it
tris_rest : (m : Mesh) (i : ℕ) (ids : List ℕ) → triangles_in (remove_cell m i) ids ≡ (not (contains ids i) && triangles_in m ids)
unfolding triangles_in all contains any
tris_rest m i [] = refl
tris_rest m i (j ∷ ids) = elim (which (eqb i j)) [
  | inl e ↦
      let gone : has_tri (remove_cell m i) j ≡ false = ap (has_tri (remove_cell m i)) (sym (eqb-true i j e)) ∙ has_gone m i in
      tris_first (remove_cell m i) j ids ∙ ap (λ b. b && triangles_in (remove_cell m i) ids) gone ∙ sym (ap (λ b. not (b || any (eqb i) ids) && triangles_in m (j ∷ ids)) e)
  | inr e ↦
      tris_first (remove_cell m i) j ids ∙ ap₂ (λ b c. b && c) (has_other m i j e) (tris_rest m i ids) ∙ swap (has_tri m j) (not (contains ids i)) (triangles_in m ids)
      ∙ ap (λ b. not (contains ids i) && b) (sym (tris_first m j ids)) ∙ sym (ap (λ b. not (b || any (eqb i) ids) && triangles_in m (j ∷ ids)) e)
]
  where
    swap : (a b c : Bool) → (a && (b && c)) ≡ (b && (a && c))
    swap true b c = refl
    swap false true c = refl
    swap false false c = refl

-- ---- the cells

cells_first : (m : Mesh) (i : ℕ) (ids : List ℕ) (x : Live) → cell_of m i ≡ some x → cells_in m (i ∷ ids) ≡ x ∷ cells_in m ids
unfolding cells_in flat_map
cells_first m i ids x e = rw e refl

cells_rest : (m : Mesh) (i : ℕ) (ids : List ℕ) → contains ids i ≡ false → cells_in (remove_cell m i) ids ≡ cells_in m ids
unfolding cells_in flat_map contains any
cells_rest m i [] h = refl
cells_rest m i (j ∷ ids) h = elim (which (eqb i j)) [
  | inl e ↦ absurd (let z : true ≡ false = rw e at h in let y : ◌≡◌ {A = ℕ} 0 1 = cc in omega arith)
  | inr e ↦ rw (other_cell m i j e) (ap (λ l. elim (cell_of m j) [ none ↦ [] | some x ↦ x ∷ [] ] ++ l) (cells_rest m i ids (rw e at h)))
]

one_gone : (i : ℕ) (x : Live) (cs xs : List Live) → x.slot ≡ i → without_all cs (without i xs) ≡ without_all (x ∷ cs) xs
unfolding without_all without filter among any in_slot
one_gone i x cs [] s = refl
one_gone i x cs (y ∷ xs) s =
    let next = one_gone i x cs xs s in
    let same : eqb y.slot x.slot ≡ eqb i y.slot = ap (eqb y.slot) s ∙ eqb_swap y.slot i in
    elim (which (eqb i y.slot)) [
      | inl e ↦ rw (e, same ∙ e) next
      | inr e ↦ rw (e, same ∙ e) (ap (λ l. cond (not (any (in_slot y.slot) cs)) (y ∷ l) l) next)
    ]

gone_first : (m : Mesh) (i : ℕ) (x : Live) (cs : List Live) → x.slot ≡ i → remove_cells (remove_cell m i) cs ≡ remove_cells m (x ∷ cs)
unfolding remove_cells remove_cell with_live
gone_first m i x cs s = ap (λ l. with_live m m.used l) (one_gone i x cs m.live s)

none_at_all : (m : Mesh) → remove_cells m (cells_in m []) ≡ m
unfolding remove_cells with_live cells_in flat_map
none_at_all m = ap (λ l. with_live m m.used l) (none_gone m.live)

-- the slot of a slot's cell
pub cell_slot : (m : Mesh) (i : ℕ) (x : Live) → cell_of m i ≡ some x → x.slot ≡ i
unfolding cell_of
cell_slot m i x e = found_slot i m.live x e

-- ---- one after the other

-- what the definition says of the slots
unfoldable pub taken : Mesh → List ℕ → Option Mesh
taken m ids = cond (triangles_in m ids && all_different ids) (some (remove_cells m (cells_in m ids))) none

has_cell : (m : Mesh) (i : ℕ) → has_tri m i ≡ true → (x : Live) × (cell_of m i ≡ some x)
unfolding has_tri cells_in flat_map any
has_cell m i h = elim (known (cell_of m i)) [
  | inl e ↦ absurd (let z : false ≡ true = rw e at h in let y : ◌≡◌ {A = ℕ} 0 1 = cc in omega arith)
  | inr e ↦ e
]

-- both tests at once
abbrev test : Mesh → List ℕ → Bool
test m ids = triangles_in m ids && all_different ids

different_first : (i : ℕ) (ids : List ℕ) → all_different (i ∷ ids) ≡ (not (contains ids i) && all_different ids)
unfolding all_different
different_first i ids = refl

same_test : (m : Mesh) (i : ℕ) (ids : List ℕ) → has_tri m i ≡ true → test (remove_cell m i) ids ≡ test m (i ∷ ids)
same_test m i ids e =
    ap (λ b. b && all_different ids) (tris_rest m i ids) ∙ turn (not (contains ids i)) (triangles_in m ids) (all_different ids)
    ∙ sym (ap₂ (λ b c. b && c) (tris_first m i ids ∙ ap (λ b. b && triangles_in m ids) e) (different_first i ids))
  where
    turn : (c t d : Bool) → ((c && t) && d) ≡ ((true && t) && (c && d))
    turn true t d = refl
    turn false true d = refl
    turn false false d = refl

-- where the first slot stands again, neither passes
named_again : (m : Mesh) (i : ℕ) (ids : List ℕ) → contains ids i ≡ true → test (remove_cell m i) ids ≡ false
named_again m i ids f = ap (λ b. b && all_different ids) (tris_rest m i ids ∙ ap (λ b. not b && triangles_in m ids) f)

if_test : (m : Mesh) (i : ℕ) (ids : List ℕ) (x : Live) → cell_of m i ≡ some x → has_tri m i ≡ true → taken (remove_cell m i) ids ≡ taken m (i ∷ ids)
unfolding taken
if_test m i ids x c e =
    let b = same_test m i ids e in
    elim (which (contains ids i)) [
      | inl f ↦
          let g = named_again m i ids f in
          ap (λ z. cond z (some (remove_cells (remove_cell m i) (cells_in (remove_cell m i) ids))) none) g
          ∙ sym (ap (λ z. cond z (some (remove_cells m (cells_in m (i ∷ ids)))) none) (sym b ∙ g))
      | inr f ↦
          let cells : remove_cells (remove_cell m i) (cells_in (remove_cell m i) ids) ≡ remove_cells m (cells_in m (i ∷ ids)) =
          ap (remove_cells (remove_cell m i)) (cells_rest m i ids f) ∙ gone_first m i x (cells_in m ids) (cell_slot m i x c) ∙ ap (remove_cells m) (sym (cells_first m i ids x c)) in
          ap₂ (λ z n. cond z (some n) none) b cells
    ]

not_first : (m : Mesh) (i : ℕ) (ids : List ℕ) → has_tri m i ≡ false → taken m (i ∷ ids) ≡ none
unfolding taken
not_first m i ids e = ap (λ z. cond (z && all_different (i ∷ ids)) (some (remove_cells m (cells_in m (i ∷ ids)))) none) (tris_first m i ids ∙ ap (λ b. b && triangles_in m ids) e)

none_taken : (m : Mesh) → taken m [] ≡ some m
unfolding taken triangles_in all all_different
none_taken m = ap some (none_at_all m)

-- the triangles in the slots given up one after the other are those that the definition takes away at once
pub taking_is : (ids : List ℕ) (m : Mesh) → taking m ids ≡ taken m ids
unfolding taking
taking_is [] m = sym (none_taken m)
taking_is (i ∷ ids) m = elim (which (has_tri m i)) [
  | inr e ↦ rw (e, taking) (sym (not_first m i ids e))
  | inl e ↦ let x = has_cell m i e in rw (e, taking) (taking_is ids (remove_cell m i) ∙ if_test m i ids x.0 x.1 e)
]
