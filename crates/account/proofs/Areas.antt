-- On the grid of 1 / 1024 a flip keeps the triangles' summed area, and a quad has that of the triangles it replaces.
use Rattle.std.specs.Prelude.{◌≡◌, ◌≢◌, ◌⊎◌, ◌&&◌, ◌+◌, ◌≤◌, ◌∷◌, ◌++◌}
use Rattle.laws.specs.Kit.{sym, ◌∙◌, ap, ap₂, inl, inr, not, some, ℕ, arith, eqb, List, []}
use Rattle.definition.specs.Plane.{Node, Edge, point}
use Rattle.definition.specs.Cells.{Tri, Quad, Live, Mesh, node_at, all_edges, tris_of}
use Rattle.definition.specs.Flips.{third, apart, convex_pair}
use Rattle.definition.specs.Region.{region}
use Rattle.definition.specs.Attempt.{replaced}
use Rattle.definition.specs.Exact.{twice_tri}
use Rattle.definition.specs.Account.{sum, tri_area, quad_area, tris_area}
use Rattle.exact.specs.Areas.{Placed}
use Rattle.exact.proofs.Areas.{tri_turned, tri_swapped}
use Rattle.exact.proofs.Diagonals.{flip_areas}
use Rattle.exact.proofs.Agrees.{agrees_exactly}
use Rattle.laws.specs.Bools.{both}
use Rattle.laws.specs.Lists.{In}
use Rattle.account.specs.Triangles.{Corners}
use Rattle.account.specs.Flips.{Flipped, TriAt}
use Rattle.account.specs.Valid.{Valid}
use Rattle.account.proofs.FlipKeeps.{in_order, third_s, third_t, rest, old_like, new_tris}
use Rattle.account.proofs.QuadKeeps.{remaining, quad_tris}
use Rattle.account.proofs.Weights.{total_append, same_total, all_taken_out, known_region}
use Rattle.account.specs.Areas.{AllPlaced, Of, area_at}

next : (x a b c : ℕ) → Of x a b c → Of x b c a
next x a b c (inl e) = inr (inr e)
next x a b c (inr (inl e)) = inl e
next x a b c (inr (inr e)) = inr (inl e)

module _ (F : ℕ → ℕ → ℕ → ℕ) (turn : (a b c : ℕ) → F a b c ≡ F b c a) (swap : (a b c : ℕ) → F a b c ≡ F b a c) (u v p : ℕ) (uv : u ≢ v) (pu : p ≢ u) (pv : p ≢ v) where
  from_first : (a b c : ℕ) → u ≡ a → Of v a b c → Of p a b c → F a b c ≡ F u v p
  from_first a b c e (inl f) k = absurd (uv (e ∙ sym f))
  from_first a b c e (inr f) (inl g) = absurd (pu (g ∙ sym e))
  from_first a b c e (inr (inl f)) (inr (inl g)) = absurd (pv (g ∙ sym f))
  from_first a b c e (inr (inl f)) (inr (inr g)) = cc
  from_first a b c e (inr (inr f)) (inr (inl g)) = let h : F a b c ≡ F u p v = cc in h ∙ turn u p v ∙ swap p v u ∙ sym (turn u v p)
  from_first a b c e (inr (inr f)) (inr (inr g)) = absurd (pv (g ∙ sym f))

  any_order : (a b c : ℕ) → Of u a b c → Of v a b c → Of p a b c → F a b c ≡ F u v p
  any_order a b c (inl e) k l = from_first a b c e k l
  any_order a b c (inr (inl e)) k l = turn a b c ∙ from_first b c a e (next v a b c k) (next p a b c l)
  any_order a b c (inr (inr e)) k l = turn a b c ∙ turn b c a ∙ from_first c a b e (next v b c a (next v a b c k)) (next p b c a (next p a b c l))

pub corners_area : (ps : List Node) (t : Tri) (u v p : ℕ) → Corners t u v p → u ≢ v → p ≢ u → p ≢ v → tri_area ps t ≡ area_at ps u v p
unfolding tri_area
corners_area ps t u v p k uv pu pv =
    any_order (area_at ps) (λ a b c. tri_turned (point ps a) (point ps b) (point ps c)) (λ a b c. tri_swapped (point ps a) (point ps b) (point ps c)) u v p uv pu pv t.n0 t.n1 t.n2 k.has0 k.has1 k.has2

module _ (m : Mesh) (e : Edge) (m' : Mesh) (ok : Valid m) (at : In e (all_edges m)) (w : Flipped m e m') (g : AllPlaced m.points) where
  -- the two triangles before have together the area of the two after, whatever their winding
  pub pair_area : tri_area m.points w.s + tri_area m.points w.t ≡ tri_area m.points w.s' + tri_area m.points w.t'
  unfolding convex_pair apart node_at
  pair_area =
      let ps = m.points in
      let u = e.0 in
      let v = e.1 in
      let p = third w.s e in
      let q = third w.t e in
      let a = third_s m e m' ok at w in
      let b = third_t m e m' ok at w in
      let o = in_order m e m' ok at w in
      let uv : u ≢ v = λ z. omega arith in
      let c = both (not (eqb p q) && apart m u v p q) (apart m p q u v) w.convex in
      let d = both (not (eqb p q)) (apart m u v p q) c.0 in
      let f = flip_areas (point ps u) (point ps v) (point ps p) (point ps q) (g u) (g v) (g p) (g q) d.1 c.1 in
      let s1 = corners_area ps w.s u v p a.nodes uv a.not_u a.not_v in
      let t1 = corners_area ps w.t u v q b.nodes uv b.not_u b.not_v in
      let s2 = corners_area ps w.s' p u q w.corners_s a.not_u (λ z. w.differ (sym z)) b.not_u in
      let t2 = corners_area ps w.t' q v p w.corners_t b.not_v w.differ a.not_v in
      let s3 : area_at ps p u q ≡ area_at ps p q u = tri_turned (point ps p) (point ps u) (point ps q) ∙ tri_turned (point ps u) (point ps q) (point ps p) ∙ tri_swapped (point ps q) (point ps p) (point ps u) in
      let t3 : area_at ps q v p ≡ area_at ps p q v = tri_turned (point ps q) (point ps v) (point ps p) ∙ tri_turned (point ps v) (point ps p) (point ps q) in
      ap₂ (λ x y. x + y) s1 t1 ∙ f ∙ sym (ap₂ (λ x y. x + y) (s2 ∙ s3) (t2 ∙ t3))

  -- a flip keeps the summed area of the live triangles
  pub flip_area : tris_area m.points (tris_of m'.live) ≡ tris_area m.points (tris_of m.live)
  unfolding tris_area sum
  flip_area =
      let f = tri_area m.points in
      let r = rest m e m' ok at w in
      let a = same_total f (tris_of m.live) (r ++ (w.s ∷ w.t ∷ [])) (old_like m e m' ok at w) in
      let b = ap (λ l. tris_area m.points l) (new_tris m e m' ok at w) in
      omega (arith, a, b, pair_area, total_append f r (w.s ∷ w.t ∷ []), total_append f r (w.s' ∷ w.t' ∷ []))

-- ---- a quad
-- a quad in place of its region: the triangles that stay and the quad have the area of all triangles before
pub quad_area_kept : (m : Mesh) (seed : ℕ) (q : Quad) (cells : List Live) → Valid m → TriAt m seed → region m seed q ≡ some cells → m.used ≤ 1048576
    → AllPlaced m.points → tris_area m.points (tris_of (replaced m q cells).live) + quad_area m.points q ≡ tris_area m.points (tris_of m.live)
unfolding tris_area node_at
quad_area_kept m seed q cells ok sd e few g =
    let f = tri_area m.points in
    let k = known_region m q cells seed ok sd e in
    let r = tris_of (remaining m q cells) in
    let l = k.few in
    let a = same_total f (tris_of m.live) (r ++ tris_of cells) (all_taken_out cells m.live ok.slots k.slots (λ x i. (k.tris x i).0)) in
    let b = agrees_exactly m g q cells (omega arith) k.agrees in
    omega (arith, a, b, total_append f r (tris_of cells), ap (λ z. tris_area m.points z) (quad_tris m q cells))
