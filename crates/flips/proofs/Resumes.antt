-- After a flip the search for the next crossing edge goes on from the least node of the
-- flipped edge and the new diagonal.
use mathlib.Core.Path.{◌≡◌, refl, ap, sym, ◌∙◌, subst}
use mathlib.Core.Bool.{true}
use mathlib.Core.List.{List, [], ◌∷◌}
use mathlib.Core.Option.{some}
use Prim.Native.Nat.{ℕ, ◌≤◌, ◌<◌}
use native.Mathlib.Omega.{arith}
use Rattle.definition.specs.Plane.{Edge}
use Rattle.definition.specs.Cells.{Tri, Cell, tri, quad, Live, Mesh, new_live, key, owns, owners, has_edge, node_at}
use Rattle.definition.specs.Flips.{third, bucket_key, overlaps, is_crossing, flip}
use Rattle.laws.specs.Lists.{in_any, any_in}
use Rattle.account.specs.Flips.{Flipped}
use Rattle.account.proofs.Flips.{flip_made}
use Rattle.account.specs.Locked.{Owned}
use Rattle.account.proofs.FlipEdges.{edge_old}
use Rattle.cells.specs.Rep.{Rep}
use Rattle.cells.proofs.Edges.{key_up}
use Rattle.crossings.specs.Cross.{Meets, NoneBelow}
use Rattle.flips.specs.Flip.{TwinsAt, StaysBelow}
use Rattle.meshes.proofs.Valid.{valid}
use Rattle.flips.proofs.Evens.{flipped_in}
use Rattle.flips.proofs.Recovers.{Kept, KeptBy, flip_kept}

-- ---- edges, and what crosses

module _ (m : Mesh) (x y : ℕ) (up : x < y) where
  edge_owned : has_edge m x y ≡ true → Owned m (x, y)
  unfolding has_edge
  edge_owned h = let g = any_in (owns (key x y)) m.live h in record { x = g.0; at = g.1; has = subst (λ (e : Edge). owns e g.0 ≡ true) (key_up x y up) g.2 }

  owned_edge : Owned m (x, y) → has_edge m x y ≡ true
  unfolding has_edge
  owned_edge o = in_any (owns (key x y)) m.live (o.x, o.at, subst (λ (e : Edge). owns e o.x ≡ true) (sym (key_up x y up)) o.has)

crossing_kept : (m m' : Mesh) (a b : ℕ) (e : Edge) → Kept m m' → is_crossing m' a b e ≡ is_crossing m a b e
unfolding is_crossing overlaps bucket_key node_at
crossing_kept m m' a b e k = rw (k.points, k.bucket)

-- ---- the owners are the two triangles

cell_tri : Cell → Tri → Tri
cell_tri (tri t) d = t
cell_tri (quad q) d = d

first_tri : List Live → Tri → Tri
first_tri [] d = d
first_tri (x ∷ l) d = cell_tri x.cell d

second_tri : List Live → Tri → Tri
second_tri [] d = d
second_tri (x ∷ l) d = first_tri l d

module _ (m : Mesh) (u v i j : ℕ) (t : TwinsAt m u v i j) (m' : Mesh) (g : Flipped m (key u v) m') where
  same_first : g.s ≡ t.s
  unfolding cell_tri first_tri new_live
  same_first = ap (λ (c : Cell). cell_tri c t.s) (sym g.cell_x) ∙ ap (λ (l : List Live). first_tri l t.s) (sym g.owned ∙ t.own)

  same_second : g.t ≡ t.t
  unfolding cell_tri first_tri second_tri new_live
  same_second = ap (λ (c : Cell). cell_tri c t.t) (sym g.cell_y) ∙ ap (λ (l : List Live). second_tri l t.t) (sym g.owned ∙ t.own)

-- ---- no crossing edge below

module _ (w : List ℕ) (s p : ℕ) (m : Mesh) (r : Rep w s p m) (u v : ℕ) (up : u < v) where
  pub stays_below : (i j x y k : ℕ) (t : TwinsAt m u v i j) → x ≡ third t.s (u, v) → y ≡ third t.t (u, v) → k ≤ u → k ≤ x → k ≤ y → StaysBelow m u v k
  stays_below i j x y k t ex ey hu hx hy m' f a b none c d h z =
      let g = flip_made m (key u v) m' f in
      let es : x ≡ third g.s (key u v) = ex ∙ ap (λ (e : Edge). third t.s e) (sym (key_up u v up)) ∙ ap (λ (q : Tri). third q (key u v)) (sym (same_first m u v i j t m' g)) in
      let et : y ≡ third g.t (key u v) = ey ∙ ap (λ (e : Edge). third t.t e) (sym (key_up u v up)) ∙ ap (λ (q : Tri). third q (key u v)) (sym (same_second m u v i j t m' g)) in
      let old = edge_old m (key u v) m' (valid w s p m r) (flipped_in m u v m' up f) g (c, d) z.up (omega (arith, es)) (omega (arith, et)) (edge_owned m' c d z.up z.edge) in
      let kept : Kept m m' = subst (λ o. KeptBy m o) f (flip_kept m (key u v)) in
      none c d (omega arith) (record { up = z.up; edge = owned_edge m c d z.up old; crosses = sym (crossing_kept m m' a b (c, d) kept) ∙ z.crosses })

pub none_below_0 : (m : Mesh) (u v : ℕ) → NoneBelow m u v 0
none_below_0 m u v x y h z = omega (arith, h)

pub stays_below_0 : (m : Mesh) (u v : ℕ) → StaysBelow m u v 0
stays_below_0 m u v m' f a b none = none_below_0 m' a b
