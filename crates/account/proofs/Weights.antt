-- Sums over lists in any order, and the triangles of a region taken out of the live cells.
use Rattle.std.specs.Prelude.{◌≡◌, ◌+◌, ◌≤◌, ◌∷◌, ◌++◌}
use Rattle.laws.specs.Kit.{refl, sym, ◌∙◌, ap, subst, inl, inr, true, Option, none, some, ℕ, zero, suc, min, arith, ltb, ltb-true, ltb-false, List, [], map, append-nil, length}
use Rattle.definition.specs.Lists.{filter, any, all, flat_map}
use Rattle.definition.specs.Cells.{Quad, Live, Mesh, live_tri, quad_edges, tri_of, tris_of, cell_of, among, without, without_all}
use Rattle.definition.specs.Region.{cell_inside, area_agrees, fills, region_from, region}
use Rattle.definition.specs.Account.{Rearranged, sum}
use Rattle.laws.specs.Bools.{which, both}
use Rattle.laws.specs.Lists.{In, filter_all, no_some}
use Rattle.laws.specs.Cells.{one_by_one}
use Rattle.account.proofs.Rearranged.{number, number_append, number_cons}
use Rattle.account.specs.Flips.{TriAt}
use Rattle.account.specs.Valid.{Slots, Valid}
use Rattle.account.proofs.Valid.{slots_filter, without_in, taken_out, one_cell}
use Rattle.account.specs.Found.{AllTris}
use Rattle.account.proofs.Found.{cell_live, region_so, region_tris, filled_is}
use Rattle.account.proofs.Floods.{flooding_start, flood_slots}
use Rattle.account.proofs.Fits.{slots_number}
use Rattle.account.specs.Weights.{KnownRegion}

-- ---- a sum has no order
module _ {A : Type 0} (w : A → ℕ) where
  -- what the elements weigh together
  abbrev pub total : List A → ℕ
  total xs = sum (map w xs)

  pub total_append : (xs ys : List A) → total (xs ++ ys) ≡ total xs + total ys
  unfolding sum
  total_append [] ys = omega arith
  total_append (x ∷ xs) ys = omega (arith, total_append xs ys)

  -- how many weigh more than 0, than 1, .. below B
  layers : ℕ → List A → ℕ
  layers zero xs = 0
  layers (suc B) xs = layers B xs + number (λ x. ltb B (w x)) xs

  layers_none : (B : ℕ) → layers B [] ≡ 0
  unfolding layers filter
  layers_none zero = refl
  layers_none (suc B) = omega (arith, layers_none B)

  one_layer : (B : ℕ) (x : A) → min (suc B) (w x) ≡ min B (w x) + number (λ x. ltb B (w x)) (x ∷ [])
  unfolding filter
  one_layer B x = elim (which (ltb B (w x))) [
    | inl e ↦ rw e (let h = ltb-true B (w x) e in omega arith)
    | inr e ↦ rw e (let h = ltb-false B (w x) e in omega arith)
  ]

  layers_cons : (B : ℕ) (x : A) (xs : List A) → layers B (x ∷ xs) ≡ min B (w x) + layers B xs
  unfolding layers
  layers_cons zero x xs = omega arith
  layers_cons (suc B) x xs = omega (arith, layers_cons B x xs, number_cons (λ x. ltb B (w x)) x xs, one_layer B x)

  layers_all : (B : ℕ) (xs : List A) → total xs ≤ B → layers B xs ≡ total xs
  unfolding sum
  layers_all B [] h = layers_none B
  layers_all B (x ∷ xs) h = omega (arith, layers_cons B x xs, layers_all B xs (omega arith))

  layers_same : (B : ℕ) (xs ys : List A) → Rearranged xs ys → layers B xs ≡ layers B ys
  unfolding layers
  layers_same zero xs ys h = refl
  layers_same (suc B) xs ys h = omega (arith, layers_same B xs ys h, h (λ x. ltb B (w x)))

  -- rearranged lists weigh the same
  pub same_total : (xs ys : List A) → Rearranged xs ys → total xs ≡ total ys
  same_total xs ys h =
      let B = total xs + total ys in
      sym (layers_all B xs (omega arith)) ∙ layers_same B xs ys h ∙ layers_all B ys (omega arith)

-- ---- the cells of a region taken out
-- live cells in different slots, taken out
pub all_taken_out : (cells xs : List Live) → Slots xs → Slots cells → ((x : Live) → In x cells → In x xs) → Rearranged (tris_of xs) (tris_of (without_all cells xs) ++ tris_of cells)
unfolding tris_of flat_map without without_all among any
all_taken_out [] xs h k l p = ap (number p) (sym (append-nil (tris_of (filter (λ x. true) xs)) ∙ ap tris_of (filter_all (λ x. true) xs (λ x i. refl))))
all_taken_out (c ∷ cs) xs h k l p =
    let ys = without c.slot xs in
    let a = taken_out xs c h (l c (inl refl)) p in
    let b = all_taken_out cs ys (slots_filter _ xs h) k.1 (λ x i. without_in c.slot x xs (l x (inr i)) (λ e. k.0 x i (sym e))) p in
    let d = ap (λ z. number p (tris_of z)) (one_by_one c cs xs) in
    let r = tris_of (without_all (c ∷ cs) xs) in
    omega (arith, a, b, d, number_append p (tris_of ys) (tri_of c.cell), number_append p (tris_of (without_all cs ys)) (tris_of cs), number_append p r (tri_of c.cell ++ tris_of cs), number_append p (tri_of c.cell) (tris_of cs))

module _ (m : Mesh) (q : Quad) (cells : List Live) where
  from_seed : (o : Option Live) → ((x : Live) → o ≡ some x → In x m.live × (live_tri x ≡ true)) → region_from m q o ≡ some cells → Slots cells
  unfolding region_from
  from_seed none h e = no_some cells e
  from_seed (some x) h e =
      let k = h x refl in
      flood_slots m.used m (quad_edges q) [] (x ∷ []) cells (flooding_start m x k.0 k.1) (filled_is m q _ cells e)

  pub known_region : (seed : ℕ) → Valid m → TriAt m seed → region m seed q ≡ some cells → KnownRegion m q cells
  unfolding region fills
  known_region seed ok sd e =
      let t = region_tris m seed q cells ok sd e in
      let r = from_seed (cell_of m seed) (λ y f.
      let c = cell_live m seed y f in
      let g : sd.x ≡ y = one_cell m.live sd.x y ok.slots sd.at c.0 (sd.slot_is ∙ c.1) in
      (c.0, subst (λ z. live_tri z ≡ true) g sd.is_one)) e in
      record {
        slots = r;
        tris = t;
        few = slots_number cells m.used r (λ x i. ok.given x (t x i).0);
        agrees = (both (all (cell_inside m q) cells) (area_agrees m q cells) (region_so m seed q cells e).0).1;
      }
