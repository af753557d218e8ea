-- Where the points are kept, the quads convex and the sides balanced,
use Rattle.laws.specs.Kit.{ℕ, arith, ℤ, pos, negsuc, List, length}
use Rattle.std.specs.Prelude.{nat_abs, ◌+ℤ◌, ◌-ℤ◌, ◌≡◌, ◌+◌}
use Rattle.definition.specs.Plane.{Node, Edge, point}
use Rattle.definition.specs.Metrics.{corner_of, corners}
use Rattle.definition.specs.Cells.{Tri, Quad}
use Rattle.definition.specs.Exact.{units, arrow, exact_cross, next_side, last_side, AboveZero, TurnsLeft, twice_tri, twice_quad}
use Rattle.definition.specs.Account.{All, sum, quad_corners, tri_area, quad_area, tris_area, quads_area}
use Rattle.exact.specs.Near.{Whole, ◌⊕◌, ◌⊖◌}
use Rattle.exact.specs.Units.{ofℤ}
use Rattle.exact.proofs.Units.{add_same}
use Rattle.account.proofs.Weights.{total}
use Rattle.accept.specs.Accept.{Judged, tri_sides, quad_sides, turn, Counterclockwise, Kept, Convex, Cover}
use Rattle.accept.specs.Named.{Names, Named}
use Rattle.accept.proofs.Named.{kept_point}
use Rattle.accept.specs.Balance.{back}
use Rattle.accept.proofs.Balance.{conserved, all_one, all_two}
use Rattle.accept.specs.Signs.{Up, Same, lace}
use Rattle.accept.proofs.Signs.{around, lace_same}
use Rattle.accept.specs.Crossings.{laced}
use Rattle.accept.proofs.Crossings.{cross_laced, sub_same, itself, signed_up}
use Rattle.accept.specs.Area.{lacing, side}

-- around a triangle they add up to twice its area, with its sign
around_is : (a b c : Node) → Same (ofℤ (exact_cross (arrow a b) (arrow a c))) (side a b ⊕ side b c ⊕ side c a)
unfolding arrow
around_is a b c =
    let ax = units a.x in
    let ay = units a.y in
    let bx = units b.x in
    let by = units b.y in
    let cx = units c.x in
    let cy = units c.y in
    let less : (p q : ℤ) → Same (ofℤ (q -ℤ p)) (ofℤ q ⊖ ofℤ p) = λ p q. sub_same q p (ofℤ q) (ofℤ p) (itself (ofℤ q)) (itself (ofℤ p)) in
    through (ofℤ (exact_cross (arrow a b) (arrow a c))) (laced (arrow a b) (arrow a c)) (lace (ofℤ bx ⊖ ofℤ ax) (ofℤ by ⊖ ofℤ ay) (ofℤ cx ⊖ ofℤ ax) (ofℤ cy ⊖ ofℤ ay)) (side a b ⊕ side b c ⊕ side c a)
    (cross_laced (arrow a b) (arrow a c))
    (lace_same (ofℤ (bx -ℤ ax)) (ofℤ (by -ℤ ay)) (ofℤ (cx -ℤ ax)) (ofℤ (cy -ℤ ay)) (ofℤ bx ⊖ ofℤ ax) (ofℤ by ⊖ ofℤ ay) (ofℤ cx ⊖ ofℤ ax) (ofℤ cy ⊖ ofℤ ay) (less ax bx) (less ay by) (less ax cx) (less ay cy))
    (around (ofℤ ax) (ofℤ ay) (ofℤ bx) (ofℤ by) (ofℤ cx) (ofℤ cy))
  where
    through : (x y z w : Whole) → Same x y → Same y z → Same w z → Same x w
    through x y z w h k l = omega arith

-- a number above zero is its size
size_is : (z : ℤ) (w : Whole) → Same (ofℤ z) w → Up w → w.0 ≡ nat_abs z + w.1
size_is (pos n) w h k = omega arith
size_is (negsuc n) w h k = absurd (omega arith)

-- the side from its other end
other_end : (a b : Node) → (side b a).0 ≡ (side a b).1
other_end a b = flip (ofℤ (units a.x)) (ofℤ (units a.y)) (ofℤ (units b.x)) (ofℤ (units b.y))
  where
    flip : (x y x' y' : Whole) → (lace x' y' x y).0 ≡ (lace x y x' y').1
    flip x y x' y' = omega arith

three_sides : (a b c : Node) → AboveZero (exact_cross (arrow a b) (arrow a c)) → (side a b).0 + (side b c).0 + (side c a).0 ≡ twice_tri a b c + ((side b a).0 + (side c b).0 + (side a c).0)
unfolding twice_tri
three_sides a b c h =
    let z = exact_cross (arrow a b) (arrow a c) in
    let w = side a b ⊕ side b c ⊕ side c a in
    let e = size_is z w (around_is a b c) (signed_up z w (around_is a b c) h) in
    sums (nat_abs z) (side a b).0 (side b c).0 (side c a).0 (side a b).1 (side b c).1 (side c a).1 (side b a).0 (side c b).0 (side a c).0 e (other_end a b) (other_end b c) (other_end c a)
  where
    sums : (n p q r p' q' r' u v w : ℕ) → p + q + r ≡ n + (p' + q' + r') → u ≡ p' → v ≡ q' → w ≡ r' → p + q + r ≡ n + (u + v + w)
    sums n p q r p' q' r' u v w e f g h = omega arith

four_sides : (a b c d : Node) → All TurnsLeft (corners a b c d) → (side a b).0 + (side b c).0 + (side c d).0 + (side d a).0 ≡ twice_quad a b c d + ((side b a).0 + (side c b).0 + (side d c).0 + (side a d).0)
unfolding twice_quad corners corner_of next_side last_side
four_sides a b c d h =
    let y = exact_cross (arrow a b) (arrow a c) in
    let z = exact_cross (arrow a c) (arrow a d) in
    let u = side a b ⊕ side b c ⊕ side c a in
    let v = side a c ⊕ side c d ⊕ side d a in
    let at_b = signed_up (exact_cross (arrow b c) (arrow b a)) (side b c ⊕ side c a ⊕ side a b) (around_is b c a) h.1.0 in
    let at_d = signed_up (exact_cross (arrow d a) (arrow d c)) (side d a ⊕ side a c ⊕ side c d) (around_is d a c) h.1.1.1.0 in
    let e = size_is (y +ℤ z) (u ⊕ v) (add_same y z u v (around_is a b c) (around_is a c d)) (both (side a b) (side b c) (side c a) (side a c) (side c d) (side d a) at_b at_d) in
    sums (nat_abs (y +ℤ z)) (side a b) (side b c) (side c d) (side d a) (side a c) (side c a) (side b a).0 (side c b).0 (side d c).0 (side a d).0 e
    (other_end a b) (other_end b c) (other_end c d) (other_end d a) (other_end a c) (other_end c a)
  where
    both : (p q m' m r s : Whole) → Up (q ⊕ m' ⊕ p) → Up (s ⊕ m ⊕ r) → Up (p ⊕ q ⊕ m' ⊕ (m ⊕ r ⊕ s))
    both p q m' m r s h k = omega arith

    sums : (n : ℕ) (p q r s m m' : Whole) (p' q' r' s' : ℕ) → (p ⊕ q ⊕ m' ⊕ (m ⊕ r ⊕ s)).0 ≡ n + (p ⊕ q ⊕ m' ⊕ (m ⊕ r ⊕ s)).1
        → p' ≡ p.1 → q' ≡ q.1 → r' ≡ r.1 → s' ≡ s.1 → m'.0 ≡ m.1 → m.0 ≡ m'.1 → p.0 + q.0 + r.0 + s.0 ≡ n + (p' + q' + r' + s')
    sums n p q r s m m' p' q' r' s' e f g h i k l = omega arith

module _ (ps : List Node) where
  tri_laced : (t : Tri) → Counterclockwise ps t → total (lacing ps) (tri_sides t) ≡ tri_area ps t + total (back (lacing ps)) (tri_sides t)
  unfolding sum tri_sides turn tri_area
  tri_laced t h = let n = three_sides (point ps t.n0) (point ps t.n1) (point ps t.n2) h in flat _ _ _ _ _ _ _ n
    where
      flat : (a b c n d e f : ℕ) → a + b + c ≡ n + (d + e + f) → a + (b + (c + 0)) ≡ n + (d + (e + (f + 0)))
      flat a b c n d e f h = omega arith

  quad_laced : (q : Quad) → All TurnsLeft (quad_corners ps q) → total (lacing ps) (quad_sides q) ≡ quad_area ps q + total (back (lacing ps)) (quad_sides q)
  unfolding sum quad_sides quad_corners quad_area
  quad_laced q h = let n = four_sides (point ps q.n0) (point ps q.n1) (point ps q.n2) (point ps q.n3) h in flat _ _ _ _ _ _ _ _ _ n
    where
      flat : (a b c d n e f g h : ℕ) → a + b + c + d ≡ n + (e + f + g + h) → a + (b + (c + (d + 0))) ≡ n + (e + (f + (g + (h + 0))))
      flat a b c d n e f g h i = omega arith

-- ---- the lists
module _ (j : Judged) (named : Named j) (kept : Kept j) (convex : Convex j) (cover : Cover j) where
  given_laced : (t : Tri) → Names (length j.given) t → Counterclockwise j.given t → total (lacing j.points) (tri_sides t) ≡ tri_area j.given t + total (back (lacing j.points)) (tri_sides t)
  unfolding sum tri_sides
  given_laced t n h =
      let e = tri_laced j.given t h in
      rw (kept_point j kept t.n0 n.0, kept_point j kept t.n1 n.1, kept_point j kept t.n2 n.2) e

  pub same_area : quads_area j.points j.quads + tris_area j.points j.left ≡ tris_area j.given j.tris
  unfolding quads_area tris_area
  same_area =
      conserved j cover.level (lacing j.points) (tri_area j.given) (tri_area j.points) (quad_area j.points)
      (all_two _ _ given_laced j.tris named cover.given_turn) (all_one _ (quad_laced j.points) j.quads convex) (all_one _ (tri_laced j.points) j.left cover.left_turn)
