-- The tests of a region: each node inside the quad, and the areas summed, cell after cell of the list.
use Rattle.std.specs.Prelude.{◌≡◌, ◌&&◌, ◌+◌, ◌<◌, ◌≤◌, ◌∷◌, ◌++◌}
use Rattle.std.specs.Prelude.{None, Some}
use Rattle.laws.specs.Kit.{refl, sym, ◌∙◌, ap, subst, Bool, true, false, not, cond, Option, none, some, ℕ, zero, suc, arith, List, [], foldl, length, get_or, drop, Float, binary64, of_bits, lt, sub, mul}
use mathlib.Core.Bool.{and-true}
use Rattle.definition.specs.Floats.{◌⊕◌, ◌⊖◌, ◌⊗◌, ◌⊘◌, ◌≺◌, abs, greater, f64, 1·0, 2·0, 1e-9}
use Rattle.definition.specs.Lists.{all}
use Rattle.definition.specs.Numbers.{area_slack}
use Rattle.definition.specs.Plane.{cross, inside_quad, quad_area}
use Rattle.definition.specs.Cells.{Tri, tri, Live, Mesh, nodes, tri_nodes, node_at, new_live, new_quad, quad_edges}
use Rattle.definition.specs.Call.{point_at}
use Rattle.definition.specs.Region.{area_of, region_area, cell_inside, area_agrees, fills, spares_locked, if_filled, region_from, region, flood}
use Rattle.cells.specs.Layout.{list_at}
use Rattle.cells.specs.Rep.{Shape, Rep, TriIn, Pts}
use Rattle.cells.specs.Walk.{node_in}
use Rattle.cells.proofs.Slots.{rep_held, rep_cell, tri_held}
use Rattle.plane.specs.Points.{Within, node_of}
use Rattle.regions.specs.Listing.{Listed, CanList, Grown, Reached}
use Rattle.regions.specs.Flood.{tri_live}
use Rattle.regions.specs.Fill.{Known, Drawn}
use Rattle.regions.proofs.Listings.{few, can_list}
use Rattle.regions.proofs.Floods.{top_at}

-- ---- nodes in the slice

-- a node of the mesh, where it is read
pub record Spotted (q : List Float) (m : Mesh) (v : ℕ) : Type 0 where
  pub within : Within q v
  pub is : node_at m v ≡ point_at q v

pub spotted : (q : List Float) (p : ℕ) (m : Mesh) → Pts q p m → (v : ℕ) → v < length m.points → Spotted q m v
spotted q p m h v l = record { within = omega (arith, h.fits, h.few); is = node_of m (length m.points) q h.are v l }

-- the three nodes as they were read
pub record Three (q : List Float) (m : Mesh) (t : Tri) (x y z : ℕ) : Type 0 where
  pub ex : x ≡ t.n0
  pub ey : y ≡ t.n1
  pub ez : z ≡ t.n2
  pub sx : Spotted q m x
  pub sy : Spotted q m y
  pub sz : Spotted q m z

three_of : (q : List Float) (p : ℕ) (m : Mesh) (t : Tri) → Pts q p m → Shape (length m.points) (tri t) → Three q m t t.n0 t.n1 t.n2
unfolding nodes tri_nodes
three_of q p m t h k =
    record {
      ex = refl;
      ey = refl;
      ez = refl;
      sx = spotted q p m h t.n0 k.known.0;
      sy = spotted q p m h t.n1 k.known.1.0;
      sz = spotted q p m h t.n2 k.known.1.1.0;
    }

module _ (w : List ℕ) (q : List Float) (s p j : ℕ) (m : Mesh) (h : Drawn w q s p j m) where
  pub drawn_inside : j < s
  unfolding new_live
  drawn_inside = omega (arith, (rep_held w s p m h.rep h.tri.has).inside, h.rep.used)

  pub three : (x y z : ℕ) → x ≡ node_in w s j 0 → y ≡ node_in w s j 1 → z ≡ node_in w s j 2 → Three q m h.tri.t x y z
  unfolding new_live
  three x y z a b c =
      let r = tri_held w s p m h.rep j h.tri in
      let e : x ≡ h.tri.t.n0 = a ∙ r.n0 in
      let f : y ≡ h.tri.t.n1 = b ∙ r.n1 in
      let g : z ≡ h.tri.t.n2 = c ∙ r.n2 in
      rw (e, f, g) (three_of q p m h.tri.t h.pts (rep_held w s p m h.rep h.tri.has).shape)

-- the quad's four
pub record Four (q : List Float) (m : Mesh) (a b c d : ℕ) : Type 0 where
  pub sa : Spotted q m a
  pub sb : Spotted q m b
  pub sc : Spotted q m c
  pub sd : Spotted q m d

pub four : (q : List Float) (p : ℕ) (m : Mesh) → Pts q p m → (a b c d : ℕ) → Known m a b c d → Four q m a b c d
four q p m h a b c d k =
    record { sa = spotted q p m h a k.0; sb = spotted q p m h b k.1.0; sc = spotted q p m h c k.1.1.0; sd = spotted q p m h d k.1.1.1.0 }

-- ---- a triangle inside the quad

module _ (q : List Float) (m : Mesh) (a b c d : ℕ) (f : Four q m a b c d) where
  abbrev in_mesh : ℕ → Bool
  in_mesh v = inside_quad (node_at m a) (node_at m b) (node_at m c) (node_at m d) (node_at m v)

  abbrev in_slice : ℕ → Bool
  in_slice v = inside_quad (point_at q a) (point_at q b) (point_at q c) (point_at q d) (point_at q v)

  at_spot : (v u : ℕ) → Spotted q m v → v ≡ u → in_slice v ≡ in_mesh u
  at_spot v u k e = rw (← e, f.sa.is, f.sb.is, f.sc.is, f.sd.is, k.is)

  inside_tri : (j : ℕ) (t : Tri) → cell_inside m (new_quad a b c d) (tri_live j t) ≡ (in_mesh t.n0 && (in_mesh t.n1 && (in_mesh t.n2 && true)))
  unfolding cell_inside all nodes tri_nodes new_live new_quad
  inside_tri j t = refl

  module _ (j : ℕ) (t : Tri) (x y z : ℕ) (g : Three q m t x y z) (r0 : Bool) (e0 : r0 ≡ in_slice x) where
    is0 : in_mesh t.n0 ≡ r0
    is0 = sym (e0 ∙ at_spot x t.n0 g.sx g.ex)

    pub first_out : r0 ≡ false → false ≡ cell_inside m (new_quad a b c d) (tri_live j t)
    first_out h = sym (inside_tri j t ∙ ap (λ (v : Bool). v && (in_mesh t.n1 && (in_mesh t.n2 && true))) (is0 ∙ h))

    module _ (h0 : r0 ≡ true) (r1 : Bool) (e1 : r1 ≡ in_slice y) where
      rest0 : cell_inside m (new_quad a b c d) (tri_live j t) ≡ (in_mesh t.n1 && (in_mesh t.n2 && true))
      rest0 = inside_tri j t ∙ ap (λ (v : Bool). v && (in_mesh t.n1 && (in_mesh t.n2 && true))) (is0 ∙ h0)

      is1 : in_mesh t.n1 ≡ r1
      is1 = sym (e1 ∙ at_spot y t.n1 g.sy g.ey)

      pub second_out : r1 ≡ false → false ≡ cell_inside m (new_quad a b c d) (tri_live j t)
      second_out h = sym (rest0 ∙ ap (λ (v : Bool). v && (in_mesh t.n2 && true)) (is1 ∙ h))

      pub third_test : r1 ≡ true → (r2 : Bool) → r2 ≡ in_slice z → r2 ≡ cell_inside m (new_quad a b c d) (tri_live j t)
      third_test h r2 e2 =
          e2 ∙ at_spot z t.n2 g.sz g.ez ∙ sym (rest0 ∙ ap (λ (v : Bool). v && (in_mesh t.n2 && true)) (is1 ∙ h) ∙ and-true (in_mesh t.n2))

-- its area
pub area_is : (q : List Float) (m : Mesh) (t : Tri) (x y z : ℕ) → Three q m t x y z → (r : Float) → r ≡ abs (cross (point_at q x) (point_at q y) (point_at q z)) ⊘ 2·0 → r ≡ area_of m (tri t)
unfolding area_of
area_is q m t x y z g r e = e ∙ rw (← g.ex, ← g.ey, ← g.ez, g.sx.is, g.sy.is, g.sz.is)

-- ---- cell after cell of the list

record Nth (i : ℕ) (xs : List Live) : Type 0 where
  y : Live
  done : List Live
  todo : List Live
  whole : xs ≡ done ++ y ∷ todo
  at : i ≡ length done
  here' : drop i xs ≡ y ∷ todo
  next : drop (suc i) xs ≡ todo

nth : (i : ℕ) (xs : List Live) → i < length xs → Nth i xs
nth i [] l = absurd (omega (arith, l))
nth zero (x ∷ xs) l = record { y = x; done = []; todo = xs; whole = refl; at = refl; here' = refl; next = refl }
nth (suc i) (x ∷ xs) l =
    let r = nth i xs (omega arith) in
    record { y = r.y; done = x ∷ r.done; todo = r.todo; whole = ap (λ (k : List Live). x ∷ k) r.whole; at = ap suc r.at; here' = r.here'; next = r.next }

drop_end : (i : ℕ) (xs : List Live) → length xs ≤ i → drop i xs ≡ []
drop_end zero [] l = refl
drop_end (suc i) [] l = refl
drop_end zero (x ∷ xs) l = absurd (omega (arith, l))
drop_end (suc i) (x ∷ xs) l = drop_end i xs (omega arith)

-- the cell in place i of the list, which is in slot j
pub record Item (m : Mesh) (xs : List Live) (i j : ℕ) : Type 0 where
  pub tri : TriIn m j
  pub is : drop i xs ≡ tri_live j tri.t ∷ drop (i + 1) xs

module _ (w : List ℕ) (s p n i : ℕ) (m : Mesh) (xs : List Live) (h : Listed w s p n m xs) where
  pub item_can : i < n → CanList w s p i
  item_can l = can_list h i (omega (arith, few h, h.rep.used))

  pub item : i < n → (j : ℕ) → j ≡ get_or w (list_at s p + i) 0 → Item m xs i j
  item l j e =
      let k = nth i xs (omega (arith, h.len)) in
      let t = top_at w s p n m k.done k.y k.todo (subst (λ (l : List Live). Listed w s p n m l) k.whole h) j (e ∙ ap (λ (v : ℕ). get_or w (list_at s p + v) 0) k.at) in
      let z : suc i ≡ i + 1 = omega arith in
      let x : drop (i + 1) xs ≡ k.todo = ap (λ (v : ℕ). drop v xs) (sym z) ∙ k.next in
      record { tri = t.tri; is = k.here' ∙ ap (λ (v : Live). v ∷ k.todo) t.is ∙ ap (λ (l : List Live). tri_live j t.tri.t ∷ l) (sym x) }

  pub items_end : n ≤ i → drop i xs ≡ []
  items_end l = drop_end i xs (omega (arith, h.len))

module _ (m : Mesh) (xs : List Live) (i j : ℕ) (t : Item m xs i j) where
  pub all_next : (f : Live → Bool) → f (tri_live j t.tri.t) ≡ true → all f (drop (i + 1) xs) ≡ all f (drop i xs)
  unfolding all
  all_next f e = sym (ap (all f) t.is ∙ ap (λ (b : Bool). b && all f (drop (i + 1) xs)) e)

  pub all_stop : (f : Live → Bool) → f (tri_live j t.tri.t) ≡ false → all f (drop i xs) ≡ false
  unfolding all
  all_stop f e = ap (all f) t.is ∙ ap (λ (b : Bool). b && all f (drop (i + 1) xs)) e

  pub sum_next : (sum r : Float) → r ≡ area_of m (tri t.tri.t) → foldl (λ (v : Float) (x : Live). v ⊕ area_of m x.cell) (sum ⊕ r) (drop (i + 1) xs)
      ≡ foldl (λ (v : Float) (x : Live). v ⊕ area_of m x.cell) sum (drop i xs)
  unfolding new_live
  sum_next sum r e =
      ap (λ (v : Float). foldl (λ (v : Float) (x : Live). v ⊕ area_of m x.cell) (sum ⊕ v) (drop (i + 1) xs)) e
      ∙ sym (ap (foldl (λ (v : Float) (x : Live). v ⊕ area_of m x.cell) sum) t.is)

pub all_end : (f : Live → Bool) (xs : List Live) → xs ≡ [] → true ≡ all f xs
unfolding all
all_end f xs e = rw e

-- ---- the areas compared

pub agrees_is : (q : List Float) (m : Mesh) (a b c d : ℕ) → Four q m a b c d → (xs : List Live)
    → (area : Float) → area ≡ quad_area (point_at q a) (point_at q b) (point_at q c) (point_at q d) → (expected : Float) → expected ≡ abs area
    → (sum : Float) → sum ≡ region_area m xs → (off : Float) → off ≡ abs (sub binary64 sum expected) → (most : Float) → most ≡ greater expected (of_bits binary64 0x3ff0000000000000)
    → not (lt (mul binary64 (of_bits binary64 0x3e112e0be826d695) most) off) ≡ area_agrees m (new_quad a b c d) xs
unfolding area_agrees new_quad area_slack ◌⊗◌ ◌⊖◌ ◌≺◌ 1·0 1e-9 f64
agrees_is q m a b c d f xs area ea expected ee sum es off eo most em =
    rw (em, eo, es, ee, ea, f.sa.is, f.sb.is, f.sc.is, f.sd.is)

-- ---- the region

module _ (w w' : List ℕ) (s p seed : ℕ) (m : Mesh) (a b c d : ℕ) (r : Rep w s p m) (t : TriIn m seed) where
  abbrev pub flooded : Option (List Live)
  flooded = flood m.used m (quad_edges (new_quad a b c d)) [] (tri_live seed t.t ∷ [])

  region_is : region m seed (new_quad a b c d) ≡ if_filled m (new_quad a b c d) flooded
  unfolding region region_from new_live
  region_is = ap (region_from m (new_quad a b c d)) (rep_cell w s p m r t.has)

  pub region_none : Reached w w' s p m [] flooded None → Reached w w' s p m [] (region m seed (new_quad a b c d)) None
  unfolding if_filled
  region_none f = subst (λ (o : Option (List Live)). Reached w w' s p m [] o None) (sym region_is) (go flooded f)
    where
      go : (o : Option (List Live)) → Reached w w' s p m [] o None → Reached w w' s p m [] (if_filled m (new_quad a b c d) o) None
      go none h = h
      go (some xs) h = absurd h

  -- the cells that the flood reached
  pub record Cells (n : ℕ) : Type 0 where
    pub xs : List Live
    pub is : flooded ≡ some xs
    pub grown : Grown w w' s p n m xs

  pub cells : (n : ℕ) → Reached w w' s p m [] flooded (Some n) → Cells n
  cells n f = go flooded refl f
    where
      go : (o : Option (List Live)) → flooded ≡ o → Reached w w' s p m [] o (Some n) → Cells n
      go none e h = absurd h
      go (some xs) e h = record { xs = xs; is = e; grown = h }

module _ {w w' : List ℕ} {s p n seed : ℕ} {m : Mesh} {a b c d : ℕ} {r : Rep w s p m} {t : TriIn m seed}
    (k : Cells w w' s p seed m a b c d r t n) where
  spares : Bool
  spares = spares_locked m (new_quad a b c d) k.xs

  by_test : (v : Bool) → (fills m (new_quad a b c d) k.xs && spares) ≡ v → region m seed (new_quad a b c d) ≡ cond v (some k.xs) none
  unfolding if_filled spares
  by_test v e =
      region_is w w' s p seed m a b c d r t ∙ ap (if_filled m (new_quad a b c d)) k.is ∙ ap (λ (u : Bool). cond u (some k.xs) none) e

  fills_is : fills m (new_quad a b c d) k.xs ≡ (all (cell_inside m (new_quad a b c d)) k.xs && area_agrees m (new_quad a b c d) k.xs)
  unfolding fills
  fills_is = refl

  refused : (fills m (new_quad a b c d) k.xs && spares) ≡ false → Reached w w' s p m [] (region m seed (new_quad a b c d)) None
  refused e = subst (λ (o : Option (List Live)). Reached w w' s p m [] o None) (sym (by_test false e)) k.grown.aside

  unfilled : fills m (new_quad a b c d) k.xs ≡ false → Reached w w' s p m [] (region m seed (new_quad a b c d)) None
  unfilled e = refused (ap (λ (v : Bool). v && spares) e)

  module _ (x : Bool) (ex : x ≡ all (cell_inside m (new_quad a b c d)) k.xs) where
    pub region_outside : x ≡ false → Reached w w' s p m [] (region m seed (new_quad a b c d)) None
    region_outside z = unfilled (fills_is ∙ ap (λ (v : Bool). v && area_agrees m (new_quad a b c d) k.xs) (sym ex ∙ z))

    module _ (h : x ≡ true) (y : Bool) (ey : y ≡ area_agrees m (new_quad a b c d) k.xs) where
      both : (v : Bool) → y ≡ v → fills m (new_quad a b c d) k.xs ≡ v
      both v e = fills_is ∙ ap (λ (u : Bool). u && area_agrees m (new_quad a b c d) k.xs) (sym ex ∙ h) ∙ sym ey ∙ e

      pub region_off : y ≡ false → Reached w w' s p m [] (region m seed (new_quad a b c d)) None
      region_off z = unfilled (both false z)

      module _ (g : y ≡ true) (l : Bool) (el : l ≡ spares_locked m (new_quad a b c d) k.xs) where
        free : (v : Bool) → l ≡ v → (fills m (new_quad a b c d) k.xs && spares) ≡ v
        unfolding spares
        free v e = ap (λ (u : Bool). u && spares) (both true g) ∙ sym el ∙ e

        pub region_locked : l ≡ false → Reached w w' s p m [] (region m seed (new_quad a b c d)) None
        region_locked z = refused (free false z)

        pub region_found : l ≡ true → Reached w w' s p m [] (region m seed (new_quad a b c d)) (Some n)
        region_found z = subst (λ (o : Option (List Live)). Reached w w' s p m [] o (Some n)) (sym (by_test true (free true z))) k.grown
