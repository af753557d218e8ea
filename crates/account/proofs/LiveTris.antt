-- How many triangles are live: a flip keeps the number, a split adds two, a quad takes away its region.
use Rattle.std.specs.Prelude.{◌≡◌, ◌≢◌, ◌+◌, ◌≤◌, ◌∷◌, ◌++◌}
use Rattle.laws.specs.Kit.{refl, sym, ◌∙◌, ap, subst, true, Option, none, some, ℕ, suc, arith, eq-eqb, eqb-true, List, [], length, length-append}
use Rattle.definition.specs.Lists.{filter, flat_map}
use Rattle.definition.specs.Plane.{Node, Edge}
use Rattle.definition.specs.Cells.{Tri, Quad, Cell, tri, quad, Live, Mesh, quad_edges, is_tri, live_tri, in_slot, cell_of, live_tris, all_edges, tri_of, tris_of, among, without_all}
use Rattle.definition.specs.Flips.{flip}
use Rattle.definition.specs.Insertion.{split_triangle}
use Rattle.definition.specs.Region.{flood, region_from, region}
use Rattle.definition.specs.Attempt.{replaced}
use Rattle.definition.specs.Account.{Pairwise}
use Rattle.laws.specs.Lists.{In, all_from, in_filter, filter_in, in_any, any_in, filter_all, no_some, no_more}
use Rattle.account.proofs.Rearranged.{same_length}
use Rattle.account.specs.Flips.{TriAt}
use Rattle.account.proofs.Flips.{flip_made}
use Rattle.account.specs.Valid.{Slots, Valid}
use Rattle.account.proofs.Valid.{slots_filter, one_cell, parted}
use Rattle.account.proofs.FlipKeeps.{rest, old_like, new_tris}
use Rattle.account.proofs.SplitKeeps.{left, t1, t2, t3, split_tris, old_split}
use Rattle.account.proofs.QuadKeeps.{remaining, quad_tris}
use Rattle.account.specs.Found.{AllTris}
use Rattle.account.proofs.Found.{cell_live, filled_is, region_tris}
use Rattle.account.proofs.Fits.{tris_number, live_number}
use Rattle.account.proofs.Floods.{flooding_start, flood_slots}

-- ---- the number
number_by : (x : Live) (c : Cell) (xs : List Live) → x.cell ≡ c → length (filter live_tri xs) ≡ length (tris_of xs) → length (filter live_tri (x ∷ xs)) ≡ length (tris_of (x ∷ xs))
unfolding filter tris_of flat_map tri_of live_tri is_tri
number_by x (tri t) xs c h = rw c (ap suc h)
number_by x (quad q) xs c h = rw c h

tris_length : (xs : List Live) → length (filter live_tri xs) ≡ length (tris_of xs)
unfolding filter tris_of flat_map
tris_length [] = refl
tris_length (x ∷ xs) = number_by x x.cell xs refl (tris_length xs)

-- the live triangles, counted or listed
pub live_tris_is : (m : Mesh) → live_tris m ≡ length (tris_of m.live)
unfolding live_tris
live_tris_is m = tris_length m.live

-- they are no more than the slots in use
pub live_tris_number : (m : Mesh) → Valid m → live_tris m ≤ m.used
live_tris_number m ok = omega (arith, live_tris_is m, tris_number m.live, live_number m ok)

-- ---- flips and splits
-- a flip keeps the number
pub flip_live_tris : (m m' : Mesh) (e : Edge) → Valid m → In e (all_edges m) → flip m e ≡ some m' → live_tris m' ≡ live_tris m
flip_live_tris m m' e ok i f =
    let w = flip_made m e m' f in
    let r = rest m e m' ok i w in
    let a = same_length (tris_of m.live) (r ++ (w.s ∷ w.t ∷ [])) (old_like m e m' ok i w) in
    let b = ap length (new_tris m e m' ok i w) in
    omega (arith, a, b, length-append r (w.s ∷ w.t ∷ []), length-append r (w.s' ∷ w.t' ∷ []), live_tris_is m, live_tris_is m')

-- a split adds two
pub split_live_tris : (m : Mesh) (x : Live) (t : Tri) (p : Node) → Valid m → In x m.live → x.cell ≡ tri t → live_tris (split_triangle m x.slot t p) ≡ live_tris m + 2
split_live_tris m x t p ok at cell =
    let r = tris_of (left m x t p ok at cell) in
    let news = t1 m x t p ok at cell ∷ t2 m x t p ok at cell ∷ t3 m x t p ok at cell ∷ [] in
    let a = same_length (tris_of m.live) (r ++ (t ∷ [])) (old_split m x t p ok at cell) in
    let b = ap length (split_tris m x t p ok at cell) in
    omega (arith, a, b, length-append r (t ∷ []), length-append r news, live_tris_is m, live_tris_is (split_triangle m x.slot t p))

-- ---- a quad
seed_slots : (m : Mesh) (q : Quad) (o : Option Live) (cells : List Live) → ((x : Live) → o ≡ some x → In x m.live × (live_tri x ≡ true))
    → region_from m q o ≡ some cells → Slots cells
unfolding region_from
seed_slots m q none cells h e = no_some cells e
seed_slots m q (some x) cells h e =
    let k = h x refl in
    flood_slots m.used m (quad_edges q) [] (x ∷ []) cells (flooding_start m x k.0 k.1) (filled_is m q (flood m.used m (quad_edges q) [] (x ∷ [])) cells e)

-- the cells of a region have different slots
pub region_slots : (m : Mesh) (seed : ℕ) (q : Quad) (cells : List Live) → Valid m → TriAt m seed → region m seed q ≡ some cells → Slots cells
unfolding region
region_slots m seed q cells ok sd e = seed_slots m q (cell_of m seed) cells (λ y f.
    let r = cell_live m seed y f in
    let g : sd.x ≡ y = one_cell m.live sd.x y ok.slots sd.at r.0 (sd.slot_is ∙ r.1) in
    (r.0, subst (λ z. live_tri z ≡ true) g sd.is_one)) e

slots_pairwise : (xs : List Live) → Slots xs → Pairwise (λ x y. x ≢ y) xs
slots_pairwise [] h = tt
slots_pairwise (x ∷ xs) h = (all_from xs (λ y i e. h.0 y i (ap (λ z. z.slot) e)), slots_pairwise xs h.1)

-- the live cells in the slots of a region are as many as the region has
taken_number : (m : Mesh) (cells : List Live) → Valid m → Slots cells → AllTris m cells → length (tris_of (filter (among cells) m.live)) ≡ length cells
unfolding among in_slot
taken_number m cells ok sl tr =
    let xs = filter (among cells) m.live in
    let same : (x : Live) → In x xs → In x cells = λ x i.
    let r = in_filter (among cells) m.live i in
    let k = any_in (in_slot x.slot) cells r.1 in
    let g : k.0 ≡ x = one_cell m.live k.0 x ok.slots (tr k.0 k.1).0 r.0 (sym (eqb-true x.slot k.0.slot k.2)) in
    subst (λ z. In z cells) g k.1 in
    let back : (x : Live) → In x cells → In x xs = λ x i. filter_in (among cells) m.live (tr x i).0 (in_any (in_slot x.slot) cells (x, i, eq-eqb x.slot x.slot refl)) in
    let a = no_more xs cells (slots_pairwise xs (slots_filter (among cells) m.live ok.slots)) same in
    let b = no_more cells xs (slots_pairwise cells sl) back in
    let c : filter live_tri xs ≡ xs = filter_all live_tri xs (λ x i. (tr x (same x i)).1) in
    omega (arith, ap length c, tris_length xs)

-- a quad takes away its region
pub quad_live_tris : (m : Mesh) (seed : ℕ) (q : Quad) (cells : List Live) → Valid m → TriAt m seed → region m seed q ≡ some cells
    → live_tris (replaced m q cells) + length cells ≡ live_tris m
unfolding without_all
quad_live_tris m seed q cells ok sd e =
    let gone = tris_of (filter (among cells) m.live) in
    let a = same_length (tris_of m.live) (tris_of (remaining m q cells) ++ gone) (parted (among cells) m.live) in
    let n = taken_number m cells ok (region_slots m seed q cells ok sd e) (region_tris m seed q cells ok sd e) in
    omega (arith, a, n, length-append (tris_of (remaining m q cells)) gone, ap length (quad_tris m q cells), live_tris_is m, live_tris_is (replaced m q cells))
