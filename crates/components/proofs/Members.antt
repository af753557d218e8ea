-- Live cells of a list: by slots, by membership, and as triangles.
use Rattle.std.specs.Prelude.{◌≡◌, ◌≢◌, ◌⊎◌, ◌+◌, ◌*◌, ◌<◌, ◌∷◌, ◌++◌}
use Rattle.laws.specs.Kit.{refl, sym, ◌∙◌, ap, subst, inl, inr, true, false≢true, ℕ, arith, eqb, ne_eqb, eqb-true, List, [], length, get_or}
use Rattle.rings.specs.Rings.{Out, Distinct}
use Rattle.rings.proofs.Lists.{Same, same, differ, decide}
use Rattle.definition.specs.Lists.{any}
use Rattle.definition.specs.Cells.{Tri, Cell, tri, quad, Live, Mesh, live_tri, is_tri, in_slot, nodes, tri_nodes, tri_has, new_live}
use Rattle.laws.specs.Lists.{In, in_right, any_in}
use Rattle.account.specs.Triangles.{Has as Corner, Distinct as Three}
use Rattle.account.proofs.Triangles.{has_test}
use Rattle.cells.specs.Rep.{Shape, slots, Has, here, there, CellAt, at_node, cell_corners, Rep, TriIn}
use Rattle.cells.proofs.Corners.{corner_in}
use Rattle.cells.proofs.Slots.{rep_held, in_has}
use Rattle.regions.specs.Listing.{Tris}
use Rattle.components.specs.Flood.{cell_tri, body, tri_live, At, Beside}

-- ---- the two words for membership

pub has_in : (x : Live) (l : List Live) → Has x l → In x l
has_in x [] x'' = elim x'' [ ]
has_in x (y ∷ l) here = inl refl
has_in x (y ∷ l) (there h) = inr (has_in x l h)

-- ---- by slots

pub out_not : (i : ℕ) (x : Live) (l : List Live) → Out i (slots l) → In x l → x.slot ≢ i
out_not i x [] o x4 q = elim x4 [ ]
out_not i x (y ∷ l) o (inl e) q = o.0 (ap (λ (z : Live). z.slot) (sym e) ∙ q)
out_not i x (y ∷ l) o (inr h) q = out_not i x l o.1 h q

pub any_has : (i : ℕ) (l : List Live) → any (in_slot i) l ≡ true → (x : Live) × In x l × (x.slot ≡ i)
unfolding in_slot
any_has i l h = let r = any_in (in_slot i) l h in (r.0, r.1, sym (eqb-true i r.0.slot r.2))

-- two cells of a list with distinct slots that have one slot are one
pub same_slot : (l : List Live) (x y : Live) → Distinct (slots l) → In x l → In y l → x.slot ≡ y.slot → x ≡ y
same_slot [] x y d x6 _ q = elim x6 [ ]
same_slot (z ∷ l) x y d (inl e) (inl f) q = e ∙ sym f
same_slot (z ∷ l) x y d (inl e) (inr j) q = absurd (out_not z.slot y l d.0 j (sym q ∙ ap (λ (v : Live). v.slot) e))
same_slot (z ∷ l) x y d (inr i) (inl f) q = absurd (out_not z.slot x l d.0 i (q ∙ ap (λ (v : Live). v.slot) f))
same_slot (z ∷ l) x y d (inr i) (inr j) q = same_slot l x y d.1 i j q

-- of a list of two parts with distinct slots no cell is in both
pub parts_apart : (l k : List Live) (x : Live) → Distinct (slots (l ++ k)) → In x l → In x k → ⊥
parts_apart [] k x d x5 j = elim x5 [ ]
parts_apart (y ∷ l) k x d (inl e) j = out_not y.slot x (l ++ k) d.0 (in_right x l k j) (ap (λ (v : Live). v.slot) e)
parts_apart (y ∷ l) k x d (inr i) j = parts_apart l k x d.1 i j

pub out_from : (i : ℕ) (l : List Live) → ((x : Live) → In x l → x.slot ≢ i) → Out i (slots l)
out_from i [] h = tt
out_from i (x ∷ l) h = (h x (inl refl), out_from i l (λ y j. h y (inr j)))

-- ---- triangles

pub tris_at : (l : List Live) → Tris l → (x : Live) → In x l → live_tri x ≡ true
tris_at [] h x x4 = elim x4 [ ]
tris_at (y ∷ l) h x (inl e) = ap live_tri e ∙ h.0
tris_at (y ∷ l) h x (inr i) = tris_at l h.1 x i

-- a live triangle is the cell of its slot
pub tri_is : (x : Live) → live_tri x ≡ true → x.cell ≡ tri (body x)
unfolding live_tri is_tri
tri_is x h = go x.cell h
  where
    go : (c : Cell) → is_tri c ≡ true → c ≡ tri (cell_tri c)
    go (tri t) e = refl
    go (quad q) e = absurd (false≢true e)

pub live_is : (x : Live) → live_tri x ≡ true → x ≡ tri_live x.slot (body x)
unfolding new_live
live_is x h = ap (λ (c : Cell). new_live x.slot c) (tri_is x h)

pub tri_found : (m : Mesh) (x : Live) → In x m.live → live_tri x ≡ true → TriIn m x.slot
tri_found m x i h = record { t = body x; has = in_has (tri_live x.slot (body x)) m.live (subst (λ (z : Live). In z m.live) (live_is x h) i) }

-- its nodes differ
shape_three : (n : ℕ) (t : Tri) → Shape n (tri t) → Three t
unfolding nodes tri_nodes
shape_three n t h = record { d01 = λ e. h.distinct.0.0 (sym e); d12 = λ e. h.distinct.1.0.0 (sym e); d20 = λ e. h.distinct.0.1.0 e }

pub body_three : (w : List ℕ) (s p : ℕ) (m : Mesh) → Rep w s p m → (x : Live) → In x m.live → live_tri x ≡ true → Three (body x)
body_three w s p m r x i h =
    shape_three (length m.points) (body x) (subst (λ (c : Cell). Shape (length m.points) c) (tri_is x h) (rep_held w s p m r (in_has x m.live i)).shape)

-- ---- corners

has_corner : (t : Tri) (u c : ℕ) → Corner t u → at_node u c 0 (tri_nodes t) ≡ [] → ⊥
unfolding tri_nodes
has_corner t u c h q = elim h [
  | inl e ↦ go 0 (omega arith) e
  | inr (inl e) ↦ go 1 (omega arith) e
  | inr (inr e) ↦ go 2 (omega arith) e
]
  where
    go : (j : ℕ) → j < 3 → u ≡ get_or (t.n0 ∷ t.n1 ∷ t.n2 ∷ []) j 0 → ⊥
    go j l e =
        let z : at_node (get_or (tri_nodes t) j 0) c 0 (tri_nodes t) ≡ [] = subst (λ (v : ℕ). at_node v c 0 (tri_nodes t) ≡ []) e q in
        corner_in c 0 (tri_nodes t) j l (subst (λ (k : List ℕ). Out (c + (0 + j)) k) (sym z) tt)

corner_has : (t : Tri) (u c x : ℕ) → at_node u c 0 (tri_nodes t) ≡ x ∷ [] → Corner t u
unfolding at_node tri_nodes
corner_has t u c x q = go (decide t.n0 u) (decide t.n1 u) (decide t.n2 u)
  where
    none : t.n0 ≢ u → t.n1 ≢ u → t.n2 ≢ u → at_node u c 0 (tri_nodes t) ≡ []
    none a b d = rw (ne_eqb t.n0 u a, ne_eqb t.n1 u b, ne_eqb t.n2 u d)

    go : Same t.n0 u → Same t.n1 u → Same t.n2 u → Corner t u
    go (same e) b d = inl (sym e)
    go (differ a) (same e) d = inr (inl (sym e))
    go (differ a) (differ b) (same e) = inr (inr (sym e))
    go (differ a) (differ b) (differ d) = let z : ◌≡◌ {A = ℕ} 0 1 = ap length (sym (none a b d) ∙ q) in absurd (omega arith)

-- a triangle has a corner at each of its nodes, and at no other
module _ (u : ℕ) (x : Live) (h : live_tri x ≡ true) where
  pub no_corner : cell_corners u x.slot x.cell ≡ [] → Corner (body x) u → ⊥
  unfolding nodes
  no_corner q k = has_corner (body x) u (4 * x.slot) k (subst (λ (c : Cell). cell_corners u x.slot c ≡ []) (tri_is x h) q)

  pub its_corner : (c : ℕ) → cell_corners u x.slot x.cell ≡ c ∷ [] → Corner (body x) u
  unfolding nodes
  its_corner c q = corner_has (body x) u (4 * x.slot) c (subst (λ (y : Cell). cell_corners u x.slot y ≡ c ∷ []) (tri_is x h) q)

-- ---- nodes that are read

module _ (w : List ℕ) (s i v : ℕ) (t : Tri) (h : CellAt w s i (tri t)) where
  pub first : get_or w (s + 4 * i) 0 ≡ t.n0
  unfolding nodes tri_nodes
  first = let e : s + 4 * i ≡ s + 4 * i + 0 = omega arith in ap (λ (k : ℕ). get_or w k 0) e ∙ h.node 0 (omega arith)

  pub second : get_or w (s + 4 * i + 1) 0 ≡ t.n1
  unfolding nodes tri_nodes
  second = h.node 1 (omega arith)

  pub third : get_or w (s + 4 * i + 2) 0 ≡ t.n2
  unfolding nodes tri_nodes
  third = h.node 2 (omega arith)

  pub read_first : get_or w (s + 4 * i) 0 ≡ v → true ≡ tri_has t v
  read_first e = sym (has_test t v (inl (sym e ∙ first)))

  pub read_second : get_or w (s + 4 * i + 1) 0 ≡ v → true ≡ tri_has t v
  read_second e = sym (has_test t v (inr (inl (sym e ∙ second))))

  pub read_third : get_or w (s + 4 * i) 0 ≢ v → get_or w (s + 4 * i + 1) 0 ≢ v → eqb (get_or w (s + 4 * i + 2) 0) v ≡ tri_has t v
  unfolding tri_has
  read_third a b = rw (ne_eqb t.n0 v (λ e. a (first ∙ e)), ne_eqb t.n1 v (λ e. b (second ∙ e)), third)

-- the nodes of the triangle in a slot
pub record Nodes (p x y z : ℕ) (t : Tri) : Type 0 where
  pub n0 : x ≡ t.n0
  pub n1 : y ≡ t.n1
  pub n2 : z ≡ t.n2
  pub in0 : x < p
  pub in1 : y < p
  pub three : Three t

module _ {w : List ℕ} {s p i : ℕ} {m : Mesh} (r : Rep w s p m) (t : TriIn m i) where
  pub tri_cell : CellAt w s i (tri t.t)
  unfolding new_live
  tri_cell = (rep_held w s p m r t.has).at

  pub tri_read : {x y z : ℕ} → (x ≡ t.t.n0) × (y ≡ t.t.n1) × (z ≡ t.t.n2) → Nodes p x y z t.t
  unfolding new_live nodes tri_nodes
  tri_read e =
      let h = (rep_held w s p m r t.has).shape in
      record {
        n0 = e.0;
        n1 = e.1;
        n2 = e.2;
        in0 = omega (arith, e.0, h.known.0, r.points);
        in1 = omega (arith, e.1, h.known.1.0, r.points);
        three = shape_three (length m.points) t.t h;
      }

-- ---- triangles that share an edge

-- one at n0 that has n1 or n2, or one at n1 that has n2
pub shares_at : (t : Tri) (e : Live) → Beside t e → At t.n0 t.n1 t.n2 e ⊎ At t.n1 t.n2 t.n2 e
shares_at t e g = elim g.sa [
  | inl a ↦ elim g.sb [
    | inl b ↦ absurd (g.differ (a ∙ sym b))
    | inr (inl b) ↦ inl (ta a, inl (tb b))
    | inr (inr b) ↦ inl (ta a, inr (tb b))
  ]
  | inr (inl a) ↦ elim g.sb [
    | inl b ↦ inl (tb b, inl (ta a))
    | inr (inl b) ↦ absurd (g.differ (a ∙ sym b))
    | inr (inr b) ↦ inr (ta a, inl (tb b))
  ]
  | inr (inr a) ↦ elim g.sb [
    | inl b ↦ inl (tb b, inr (ta a))
    | inr (inl b) ↦ inr (tb b, inl (ta a))
    | inr (inr b) ↦ absurd (g.differ (a ∙ sym b))
  ]
]
  where
    ta : {v : ℕ} → g.a ≡ v → Corner (body e) v
    ta q = subst (λ (v : ℕ). Corner (body e) v) q g.ta

    tb : {v : ℕ} → g.b ≡ v → Corner (body e) v
    tb q = subst (λ (v : ℕ). Corner (body e) v) q g.tb

module _ (t : Tri) (d : Three t) (e : Live) where
  pub first_shares : At t.n0 t.n1 t.n2 e → Beside t e
  first_shares h = elim h.1 [
    | inl k ↦ record { a = t.n0; b = t.n1; differ = d.d01; sa = inl refl; sb = inr (inl refl); ta = h.0; tb = k }
    | inr k ↦ record { a = t.n2; b = t.n0; differ = d.d20; sa = inr (inr refl); sb = inl refl; ta = k; tb = h.0 }
  ]

  pub second_shares : At t.n1 t.n2 t.n2 e → Beside t e
  second_shares h = record { a = t.n1; b = t.n2; differ = d.d12; sa = inr (inl refl); sb = inr (inr refl); ta = h.0; tb = elim h.1 [ inl k ↦ k | inr k ↦ k ] }
