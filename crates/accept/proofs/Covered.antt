-- Where the points are kept, the quads convex and the sides balanced,
use Rattle.laws.specs.Kit.{refl, inl, inr, Bool, ℕ, suc, arith, ℤ, pos, List, [], length}
use Rattle.std.specs.Prelude.{◌-ℤ◌, ◌*ℤ◌, ◌≡◌, ◌+◌, ◌∷◌}
use Rattle.definition.specs.Lists.{filter, all, flat_map}
use Rattle.definition.specs.Plane.{Node, Edge, point}
use Rattle.definition.specs.Metrics.{corner_of, corners}
use Rattle.definition.specs.Cells.{Tri, Quad}
use Rattle.definition.specs.Exact.{units, arrow, exact_cross, next_side, last_side, AboveZero, TurnsLeft}
use Rattle.definition.specs.Account.{All, sum, quad_corners}
use Rattle.exact.specs.Near.{Whole, ◌⊕◌, ◌⊖◌, ◌⊗◌}
use Rattle.exact.proofs.Near.{same_scale}
use Rattle.exact.specs.Units.{ofℤ}
use Rattle.exact.proofs.Units.{mul_same}
use Rattle.laws.specs.Bools.{which}
use Rattle.account.proofs.Weights.{total}
use Rattle.accept.specs.Accept.{Judged, tri_sides, quad_sides, given_sides, cell_sides, turn, Counterclockwise, Kept, Convex, Cover}
use Rattle.accept.specs.Named.{Names, Named}
use Rattle.accept.proofs.Named.{kept_point}
use Rattle.accept.specs.Balance.{back}
use Rattle.accept.proofs.Balance.{split, all_flat, all_two, all_three, conserved}
use Rattle.accept.specs.Signs.{Up, Same, lace}
use Rattle.accept.proofs.Signs.{around, lace_same, lace_longer}
use Rattle.accept.specs.Places.{Place, toward, left, OffSide, inside, covering}
use Rattle.accept.specs.Crossings.{X, Y, laced, upward, mark}
use Rattle.accept.proofs.Crossings.{cross_laced, sub_same, signed_up, itself, once}
use Rattle.accept.specs.QuadCrossings.{Turning}
use Rattle.accept.proofs.QuadCrossings.{once_around}
use Rattle.accept.specs.Covered.{crossing}

-- ---- a turn to the left, seen from a place
module _ (s : Place) where
  -- k
  abbrev times : Whole
  times = (suc s.finer, 0)

  -- one coordinate: the way between two nodes, k times, is the difference of the ways to them
  along_axis : (a b p : ℤ) → Same (ofℤ (b *ℤ pos (suc s.finer) -ℤ p) ⊖ ofℤ (a *ℤ pos (suc s.finer) -ℤ p)) (ofℤ (b -ℤ a) ⊗ times)
  along_axis a b p =
      joined (ofℤ (b *ℤ pos (suc s.finer) -ℤ p)) (ofℤ (a *ℤ pos (suc s.finer) -ℤ p)) (ofℤ b ⊗ times) (ofℤ a ⊗ times) (ofℤ p) (ofℤ (b -ℤ a) ⊗ times)
      (way b) (way a) (near_over (ofℤ (b -ℤ a)) (ofℤ b) (ofℤ a) (sub_same b a (ofℤ b) (ofℤ a) (itself (ofℤ b)) (itself (ofℤ a))))
    where
      way : (a : ℤ) → Same (ofℤ (a *ℤ pos (suc s.finer) -ℤ p)) (ofℤ a ⊗ times ⊖ ofℤ p)
      way a = sub_same (a *ℤ pos (suc s.finer)) p (ofℤ a ⊗ times) (ofℤ p) (mul_same a (pos (suc s.finer)) (ofℤ a) times (itself (ofℤ a)) (itself times)) (itself (ofℤ p))

      over : (u v w : Whole) → Same ((u ⊖ v) ⊗ w) (u ⊗ w ⊖ v ⊗ w)
      over u v w = omega arith

      through : (x y z : Whole) → Same x y → Same y z → Same x z
      through x y z h k = omega arith

      near_over : (d u v : Whole) → Same d (u ⊖ v) → Same (d ⊗ times) (u ⊗ times ⊖ v ⊗ times)
      near_over d u v h = through (d ⊗ times) ((u ⊖ v) ⊗ times) (u ⊗ times ⊖ v ⊗ times) (same_scale d (u ⊖ v) times h) (over u v times)

      joined : (x y u v p d : Whole) → Same x (u ⊖ p) → Same y (v ⊖ p) → Same d (u ⊖ v) → Same (x ⊖ y) d
      joined x y u v p d h k l = omega arith

  pub turned_left : (a b c : Node) → AboveZero (exact_cross (arrow a b) (arrow a c))
      → Up (laced (toward s a) (toward s b) ⊕ laced (toward s b) (toward s c) ⊕ laced (toward s c) (toward s a))
  unfolding toward arrow
  turned_left a b c h =
      let A = toward s a in
      let B = toward s b in
      let C = toward s c in
      let u = arrow a b in
      let v = arrow a c in
      moved (laced A B ⊕ laced B C ⊕ laced C A) (lace (X B ⊖ X A) (Y B ⊖ Y A) (X C ⊖ X A) (Y C ⊖ Y A)) (lace (X u ⊗ times) (Y u ⊗ times) (X v ⊗ times) (Y v ⊗ times))
      (around (X A) (Y A) (X B) (Y B) (X C) (Y C))
      (lace_same (X B ⊖ X A) (Y B ⊖ Y A) (X C ⊖ X A) (Y C ⊖ Y A) (X u ⊗ times) (Y u ⊗ times) (X v ⊗ times) (Y v ⊗ times)
      (along_axis (units a.x) (units b.x) s.px) (along_axis (units a.y) (units b.y) s.py) (along_axis (units a.x) (units c.x) s.px) (along_axis (units a.y) (units c.y) s.py))
      (lace_longer (X u) (Y u) (X v) (Y v) times (omega arith) (signed_up (exact_cross u v) (laced u v) (cross_laced u v) h))
    where
      moved : (x y z : Whole) → Same x y → Same y z → Up z → Up x
      moved x y z h k l = omega arith

  -- a quad that turns left at its corners
  pub turning : (a b c d : Node) → All TurnsLeft (corners a b c d) → Turning (toward s a) (toward s b) (toward s c) (toward s d)
  unfolding corners corner_of next_side last_side
  turning a b c d h =
      let A = toward s a in
      let B = toward s b in
      let C = toward s c in
      let D = toward s d in
      record {
        abd = turned_left a b d h.0;
        abc = twice_on (laced B C) (laced C A) (laced A B) (turned_left b c a h.1.0);
        bcd = twice_on (laced C D) (laced D B) (laced B C) (turned_left c d b h.1.1.0);
        acd = once_on (laced D A) (laced A C) (laced C D) (turned_left d a c h.1.1.1.0);
      }
    where
      once_on : (u v w : Whole) → Up (u ⊕ v ⊕ w) → Up (v ⊕ w ⊕ u)
      once_on u v w h = omega arith

      twice_on : (u v w : Whole) → Up (u ⊕ v ⊕ w) → Up (w ⊕ u ⊕ v)
      twice_on u v w h = omega arith

module _ (s : Place) (ps : List Node) where
  pub tri_once : (t : Tri) → Counterclockwise ps t → All (OffSide s ps) (tri_sides t)
      → total (crossing s ps) (tri_sides t) ≡ mark (inside s ps (tri_sides t)) + total (back (crossing s ps)) (tri_sides t)
  unfolding sum tri_sides inside all turn
  tri_once t h o =
      let n = once (toward s (point ps t.n0)) (toward s (point ps t.n1)) (toward s (point ps t.n2)) (turned_left s (point ps t.n0) (point ps t.n1) (point ps t.n2) h) o.0 o.1.0 o.1.1.0 in
      omega arith

  pub quad_once : (q : Quad) → All TurnsLeft (quad_corners ps q) → All (OffSide s ps) (quad_sides q)
      → total (crossing s ps) (quad_sides q) ≡ mark (inside s ps (quad_sides q)) + total (back (crossing s ps)) (quad_sides q)
  unfolding sum quad_sides inside all quad_corners
  quad_once q h o =
      let n = once_around (toward s (point ps q.n0)) (toward s (point ps q.n1)) (toward s (point ps q.n2)) (toward s (point ps q.n3))
      (turning s (point ps q.n0) (point ps q.n1) (point ps q.n2) (point ps q.n3) h)
      (record { ab = o.0; bc = o.1.0; cd = o.1.1.0; da = o.1.1.1.0 }) in
      omega arith

-- ---- lists of cells
counts : {A : Type 0} (p : A → Bool) (xs : List A) → total (λ x. mark (p x)) xs ≡ length (filter p xs)
unfolding sum filter
counts p [] = refl
counts p (x ∷ xs) = elim (which (p x)) [ inl e ↦ rw e (omega (arith, counts p xs)) | inr e ↦ rw e (omega (arith, counts p xs)) ]

module _ (j : Judged) (named : Named j) (kept : Kept j) (convex : Convex j) (cover : Cover j) (s : Place)
    (off_given : All (OffSide s j.given) (given_sides j)) (off_cells : All (OffSide s j.points) (cell_sides j)) where
  w : Edge → ℕ
  w = crossing s j.points

  -- a given triangle by the points of the result
  given_once : (t : Tri) → Names (length j.given) t → Counterclockwise j.given t → All (OffSide s j.given) (tri_sides t)
      → total w (tri_sides t) ≡ mark (inside s j.given (tri_sides t)) + total (back w) (tri_sides t)
  unfolding w sum tri_sides
  given_once t n h o =
      let e = tri_once s j.given t h o in
      rw (kept_point j kept t.n0 n.0, kept_point j kept t.n1 n.1, kept_point j kept t.n2 n.2) e

  pub as_often : covering s j.points quad_sides j.quads + covering s j.points tri_sides j.left ≡ covering s j.given tri_sides j.tris
  unfolding covering given_sides cell_sides w
  as_often =
      let off = split (OffSide s j.points) (flat_map quad_sides j.quads) (flat_map tri_sides j.left) off_cells in
      let n = conserved j cover.level w (λ t. mark (inside s j.given (tri_sides t))) (λ t. mark (inside s j.points (tri_sides t))) (λ q. mark (inside s j.points (quad_sides q)))
      (all_three _ _ _ given_once j.tris named cover.given_turn (all_flat _ tri_sides j.tris off_given))
      (all_two _ _ (quad_once s j.points) j.quads convex (all_flat _ quad_sides j.quads off.0))
      (all_two _ _ (tri_once s j.points) j.left cover.left_turn (all_flat _ tri_sides j.left off.1)) in
      omega (arith, n, counts (λ t. inside s j.given (tri_sides t)) j.tris, counts (λ t. inside s j.points (tri_sides t)) j.left, counts (λ q. inside s j.points (quad_sides q)) j.quads)
