-- The cells that searches find are live: the live region, the holder of a point,
use Rattle.std.specs.Prelude.{◌≡◌, ◌⊎◌, ◌&&◌, ◌∷◌, ◌++◌}
use Rattle.laws.specs.Kit.{refl, sym, ◌∙◌, subst, inl, inr, true, false, not, Option, none, some, ℕ, zero, suc, eqb-true, List, [], foldl, Float}
use Rattle.definition.specs.Floats.{◌⊗◌}
use Rattle.definition.specs.Numbers.{insert_reach}
use Rattle.definition.specs.Plane.{Node, Edge}
use Rattle.definition.specs.Cells.{Tri, Quad, Cell, tri, quad, Live, Mesh, is_tri, live_tri, edges, quad_edges, edge_before, owns, in_slot, cell_of, owners, tri_owners, tri_owner, all_edges, in_slot_order, without, among}
use Rattle.definition.specs.Flips.{first_crossing}
use Rattle.definition.specs.Candidates.{in_reach, neighbours, on_top, live_region_from, seed_stack, live_region}
use Rattle.definition.specs.Insertion.{holds, holder}
use Rattle.definition.specs.Region.{reach, reach_all, across, flood, fills, spares_locked, if_filled, region_from, region}
use Rattle.laws.specs.Bools.{which, both, never, cond_ok}
use Rattle.laws.specs.Lists.{In, in_either, in_filter, find_in, sort_in, any_in, first_in, known, no_some, in_flat_map}
use Rattle.account.specs.Flips.{TriAt}
use Rattle.account.specs.Valid.{Valid}
use Rattle.account.proofs.Valid.{one_cell}
use Rattle.account.specs.Found.{AllLive, AllTris, Owner}

-- the cell of a slot
pub cell_live : (m : Mesh) (id : ℕ) (x : Live) → cell_of m id ≡ some x → In x m.live × (id ≡ x.slot)
unfolding cell_of in_slot
cell_live m id x e = let r = find_in (in_slot id) x m.live e in (r.0, eqb-true id x.slot r.1)

-- ---- the live region
-- the neighbours
pub neighbours_live : (m : Mesh) (x : Live) → AllLive m (neighbours m x)
unfolding neighbours owners
neighbours_live m x y i = let r = in_flat_map (owners m) y (edges x.cell) i in (in_filter (owns r.0) m.live r.2).0

-- what comes on top: a live triangle
pub on_top_tris : (m : Mesh) (seen stack : List Live) (y : Live) → AllTris m stack → In y m.live → AllTris m (on_top seen stack y)
unfolding on_top without
on_top_tris m seen stack y h k =
    cond_ok (AllTris m) (live_tri y && not (among seen y)) (y ∷ without y.slot stack) stack
    (λ e z i. elim i [ inl f ↦ subst (λ x. In x m.live × (live_tri x ≡ true)) (sym f) (k, (both (live_tri y) _ e).0) | inr j ↦ h z (in_filter _ stack j).0 ]) (λ e. h)

pub all_on_top : (m : Mesh) (seen stack ys : List Live) → AllTris m stack → AllLive m ys → AllTris m (foldl (on_top seen) stack ys)
all_on_top m seen stack [] h k = h
all_on_top m seen stack (y ∷ ys) h k = all_on_top m seen (on_top seen stack y) ys (on_top_tris m seen stack y h (k y (inl refl))) (λ z i. k z (inr i))

region_from_live : (n : ℕ) (m : Mesh) (o : Node) (r : Float) (out seen stack : List Live) → AllTris m out → AllTris m stack
    → AllTris m (live_region_from n m o r out seen stack)
unfolding live_region_from
region_from_live zero m o r out seen stack h k = h
region_from_live (suc n) m o r out seen [] h k = h
region_from_live (suc n) m o r out seen (x ∷ stack) h k =
    let rest : AllTris m stack = λ y i. k y (inr i) in
    elim (which (in_reach m o r x.cell)) [
      | inl e ↦ rw (e, live_region_from) (region_from_live n m o r (out ++ (x ∷ [])) (x ∷ seen) (foldl (on_top (x ∷ seen)) stack (neighbours m x))
          (λ y i. elim (in_either y out (x ∷ []) i) [ inl j ↦ h y j | inr (inl f) ↦ k y (inl f) | inr (inr x6) ↦ elim x6 [ ] ]) (all_on_top m (x ∷ seen) stack (neighbours m x) rest (neighbours_live m x)))
      | inr e ↦ rw (e, live_region_from) (region_from_live n m o r out (x ∷ seen) stack h rest)
    ]

pub seed_stack_tris : (m : Mesh) (o : Option Live) → ((x : Live) → o ≡ some x → In x m.live) → AllTris m (seed_stack o)
unfolding seed_stack
seed_stack_tris m none h = λ y i. absurd i
seed_stack_tris m (some x) h = on_top_tris m [] [] x (λ y i. absurd i) (h x refl)

-- the live region's cells are live triangles
pub live_region_tris : (m : Mesh) (seed : ℕ) (o : Node) (r : Float) → AllTris m (live_region m seed o r)
unfolding live_region
live_region_tris m seed o r = region_from_live m.used m o r [] [] (seed_stack (cell_of m seed)) (λ y i. absurd i) (seed_stack_tris m (cell_of m seed) (λ x e. (cell_live m seed x e).0))

-- ---- one cell, one edge
-- the holder of a point
pub holder_in : (m : Mesh) (seed : ℕ) (p : Node) (x : Live) → holder m seed p ≡ some x → In x m.live × (holds m p x.cell ≡ true)
unfolding holder in_slot_order
holder_in m seed p x e =
    let near = live_region m seed p (insert_reach ⊗ m.bucket) in
    let r = find_in (λ x. holds m p x.cell) x (near ++ in_slot_order m.live) e in
    (elim (in_either x near (in_slot_order m.live) r.0) [ inl i ↦ (live_region_tris m seed p _ x i).0 | inr i ↦ sort_in _ x m.live i ], r.1)

-- the first crossing edge is an edge of the mesh
pub crossing_in : (m : Mesh) (u v : ℕ) (e : Edge) → first_crossing m u v ≡ some e → In e (all_edges m)
unfolding first_crossing
crossing_in m u v e h = (in_filter _ (all_edges m) (sort_in edge_before e _ (first_in e _ h))).0

-- a cell that passes the test is a triangle
pub is_a_tri : (c : Cell) → is_tri c ≡ true → (t : Tri) × (c ≡ tri t)
unfolding is_tri
is_a_tri (tri t) e = (t, refl)
is_a_tri (quad q) e = never false e refl

-- the first triangle that owns an edge
pub owner_in : (m : Mesh) (e : Edge) (x : Live) → tri_owner m e ≡ some x → Owner m e x
unfolding tri_owner tri_owners owners
owner_in m e x f =
    let r = in_filter live_tri (owners m e) (first_in x (tri_owners m e) f) in
    let k = in_filter (owns e) m.live r.0 in
    record { at = k.0; owning = k.1; is_one = r.1 }

-- ---- the region of a quad
-- the cells across the edges
pub across_live : (m : Mesh) (sides : List Edge) (x : Live) → AllLive m (across m sides x)
unfolding across owners
across_live m sides x y i = let r = in_flat_map (owners m) y _ i in (in_filter (owns r.0) m.live r.2).0

-- what a reached cell adds: nothing, or itself, a triangle that was not reached before
pub reach_adds : (done todo : List Live) (y : Live) (todo' : List Live) → reach done todo y ≡ some todo'
    → (todo' ≡ todo) ⊎ ((todo' ≡ todo ++ (y ∷ [])) × (live_tri y ≡ true) × (among (done ++ todo) y ≡ false))
unfolding reach
reach_adds done todo y todo' e = elim (which (among (done ++ todo) y)) [
  | inl f ↦ let g : some todo ≡ some todo' = rw f at e in inl (cc)
  | inr f ↦ elim (which (live_tri y)) [
    | inl g ↦ let h : some (todo ++ (y ∷ [])) ≡ some todo' = rw (f, g) at e in inr (cc, g, f)
    | inr g ↦ no_some todo' (rw (f, g) at e)
  ]
]

reach_tris : (m : Mesh) (done todo : List Live) (y : Live) (todo' : List Live) → reach done todo y ≡ some todo' → AllTris m todo → In y m.live → AllTris m todo'
reach_tris m done todo y todo' e h k = elim (reach_adds done todo y todo' e) [
  | inl f ↦ subst (λ l. AllTris m l) (sym f) h
  | inr f ↦
      subst (λ l. AllTris m l) (sym f.0)
      (λ z i. elim (in_either z todo (y ∷ []) i) [ inl j ↦ h z j | inr (inl g) ↦ subst (λ x. In x m.live × (live_tri x ≡ true)) (sym g) (k, f.1) | inr (inr x3) ↦ elim x3 [ ] ])
]

reach_all_tris : (m : Mesh) (done todo ys todo' : List Live) → reach_all done todo ys ≡ some todo' → AllTris m todo → AllLive m ys → AllTris m todo'
unfolding reach_all
reach_all_tris m done todo [] todo' e h k = let f : todo ≡ todo' = cc in subst (λ l. AllTris m l) f h
reach_all_tris m done todo (y ∷ ys) todo' e h k = elim (known (reach done todo y)) [
  | inl f ↦ no_some todo' (rw (f, reach_all) at e)
  | inr f ↦ reach_all_tris m done f.0 ys todo' (rw (f.1, reach_all) at e) (reach_tris m done todo y f.0 f.1 h (k y (inl refl))) (λ z i. k z (inr i))
]

flood_tris : (n : ℕ) (m : Mesh) (sides : List Edge) (done todo cells : List Live) → AllTris m done → AllTris m todo → flood n m sides done todo ≡ some cells
    → AllTris m cells
unfolding flood
flood_tris zero m sides done todo cells h k e = let f : done ≡ cells = cc in subst (λ l. AllTris m l) f h
flood_tris (suc n) m sides done [] cells h k e = let f : done ≡ cells = cc in subst (λ l. AllTris m l) f h
flood_tris (suc n) m sides done (x ∷ todo) cells h k e = elim (known (reach_all (done ++ (x ∷ [])) todo (across m sides x))) [
  | inl f ↦ no_some cells (rw (f, flood) at e)
  | inr f ↦ flood_tris n m sides (done ++ (x ∷ [])) f.0 cells
      (λ y i. elim (in_either y done (x ∷ []) i) [ inl j ↦ h y j | inr (inl g) ↦ k y (inl g) | inr (inr x7) ↦ elim x7 [ ] ])
      (reach_all_tris m (done ++ (x ∷ [])) todo (across m sides x) f.0 f.1 (λ y i. k y (inr i)) (across_live m sides x))
      (rw (f.1, flood) at e)
]

-- a region that fills the quad is the flood
pub filled_is : (m : Mesh) (q : Quad) (o : Option (List Live)) (cells : List Live) → if_filled m q o ≡ some cells → o ≡ some cells
unfolding if_filled
filled_is m q none cells e = no_some cells e
filled_is m q (some r) cells e = elim (which (fills m q r && spares_locked m q r)) [ inl f ↦ rw f at e | inr f ↦ no_some cells (rw f at e) ]

-- it fills the quad, and spares the locked edges
pub filled_so : (m : Mesh) (q : Quad) (o : Option (List Live)) (cells : List Live) → if_filled m q o ≡ some cells → (fills m q cells ≡ true) × (spares_locked m q cells ≡ true)
unfolding if_filled
filled_so m q none cells e = no_some cells e
filled_so m q (some r) cells e = elim (which (fills m q r && spares_locked m q r)) [
  | inl f ↦ let g : some r ≡ some cells = rw f at e in let h : r ≡ cells = cc in subst (λ z. (fills m q z ≡ true) × (spares_locked m q z ≡ true)) h (both (fills m q r) (spares_locked m q r) f)
  | inr f ↦ no_some cells (rw f at e)
]

-- a region that is not refused fills the quad, and spares the locked edges
pub region_so : (m : Mesh) (seed : ℕ) (q : Quad) (cells : List Live) → region m seed q ≡ some cells → (fills m q cells ≡ true) × (spares_locked m q cells ≡ true)
unfolding region region_from
region_so m seed q cells h = go (cell_of m seed) h
  where
    go : (o : Option Live) → region_from m q o ≡ some cells → (fills m q cells ≡ true) × (spares_locked m q cells ≡ true)
    go none g = no_some cells g
    go (some x) g = filled_so m q _ cells g

from_seed_tris : (m : Mesh) (q : Quad) (o : Option Live) (cells : List Live) → ((x : Live) → o ≡ some x → In x m.live × (live_tri x ≡ true))
    → region_from m q o ≡ some cells → AllTris m cells
unfolding region_from
from_seed_tris m q none cells h e = no_some cells e
from_seed_tris m q (some x) cells h e =
    flood_tris m.used m (quad_edges q) [] (x ∷ []) cells (λ y i. absurd i)
    (λ y i. elim i [ inl f ↦ subst (λ z. In z m.live × (live_tri z ≡ true)) (sym f) (h x refl) | inr x4 ↦ elim x4 [ ] ]) (filled_is m q _ cells e)

-- a region from a triangle's slot has live triangles alone
pub region_tris : (m : Mesh) (seed : ℕ) (q : Quad) (cells : List Live) → Valid m → TriAt m seed → region m seed q ≡ some cells → AllTris m cells
unfolding region
region_tris m seed q cells ok sd e = from_seed_tris m q (cell_of m seed) cells (λ y f.
    let r = cell_live m seed y f in
    let g : sd.x ≡ y = one_cell m.live sd.x y ok.slots sd.at r.0 (sd.slot_is ∙ r.1) in
    (r.0, subst (λ z. live_tri z ≡ true) g sd.is_one)) e

-- a live cell whose slot is one of the region's is a triangle
pub region_slot_tri : (m : Mesh) (seed : ℕ) (q : Quad) (cells : List Live) → Valid m → TriAt m seed → region m seed q ≡ some cells
    → (x : Live) → In x m.live → among cells x ≡ true → (t : Tri) × (x.cell ≡ tri t)
unfolding among live_tri in_slot
region_slot_tri m seed q cells ok sd e x i a =
    let r = any_in (in_slot x.slot) cells a in
    let w = region_tris m seed q cells ok sd e r.0 r.1 in
    let g : r.0 ≡ x = one_cell m.live r.0 x ok.slots w.0 i (sym (eqb-true x.slot r.0.slot r.2)) in
    is_a_tri x.cell (subst (λ z. live_tri z ≡ true) g w.1)
