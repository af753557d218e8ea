-- The tests of an edge against a segment, as the code goes about them.
use Rattle.std.specs.Prelude.{◌≡◌, ◌&&◌, ◌||◌, ◌+◌, ◌*◌, ◌<◌}
use Rattle.laws.specs.Kit.{refl, sym, ◌∙◌, ap, subst, Bool, true, false, not, true≢false, false≢true, ℕ, arith, eqb, List, Float, le}
use mathlib.Core.Bool.{and-false}
use Rattle.rings.specs.Rings as rings
use Rattle.definition.specs.Floats.{◌⊗◌, ◌⊘◌, ◌≺◌, ◌≼◌, 0·0, lesser, greater}
use Rattle.definition.specs.Root.{floor}
use Rattle.definition.specs.Plane.{Node, side, parts, segments_cross}
use Rattle.definition.specs.Cells.{Mesh, node_at, touches}
use Rattle.definition.specs.Call.{point_at, first_points}
use Rattle.definition.specs.Flips.{off_edge, bucket_key, ranges_meet, overlaps, is_crossing}
use Rattle.plane.specs.Points.{node, ground, node_of, spot_x, spot_y}
use Rattle.plane.specs.declared.points.Spot.{Spot}
use Rattle.crossings.specs.Nodes.{Four}
use Rattle.crossings.specs.Cross.{Choice, stays, takes, axis_meets, Known, Drawn, Segment, CanTry}

-- ---- ranges

module _ (p q r s a b : Float) (ea : a ≡ lesser p q) (eb : b ≡ greater r s) where
  pub meet_not : le a b ≡ false → false ≡ ranges_meet p q r s
  unfolding ranges_meet ◌≼◌
  meet_not h = rw (← ea, ← eb, h)

  pub meet_rest : le a b ≡ true → (c d : Float) → c ≡ lesser r s → d ≡ greater p q → le c d ≡ ranges_meet p q r s
  unfolding ranges_meet ◌≼◌
  meet_rest h c d ec ed = rw (← ea, ← eb, h, ← ec, ← ed)

pub axis_is : (side p q r s a b c d : Float) (t : Bool) → t ≡ ranges_meet a b c d → a ≡ floor (p ⊘ side) → b ≡ floor (q ⊘ side) → c ≡ floor (r ⊘ side) → d ≡ floor (s ⊘ side)
    → t ≡ axis_meets side p q r s
unfolding axis_meets
axis_is side p q r s a b c d t h ea eb ec ed = rw (← ea, ← eb, ← ec, ← ed) h

-- ---- overlaps

module _ (q : List Float) (m : Mesh) (u v a b : ℕ) (side : Float) (e : m.bucket ≡ side) (f : Four q m u v a b) (su sv sa sb : Spot)
    (eu : node su ≡ ground (point_at q u)) (ev : node sv ≡ ground (point_at q v)) (ea : node sa ≡ ground (point_at q a)) (eb : node sb ≡ ground (point_at q b)) where
  over_is : overlaps m (node_at m u) (node_at m v) (node_at m a) (node_at m b)
      ≡ (axis_meets side su.x sv.x sa.x sb.x && axis_meets side su.y sv.y sa.y sb.y)
  unfolding overlaps bucket_key axis_meets
  over_is =
      let ux = spot_x su (point_at q u) eu in
      let vx = spot_x sv (point_at q v) ev in
      let ax = spot_x sa (point_at q a) ea in
      let bx = spot_x sb (point_at q b) eb in
      let uy = spot_y su (point_at q u) eu in
      let vy = spot_y sv (point_at q v) ev in
      let ay = spot_y sa (point_at q a) ea in
      let by = spot_y sb (point_at q b) eb in
      rw (f.u_is, f.v_is, f.a_is, f.b_is, e, ux, vx, ax, bx, uy, vy, ay, by)

  module _ (r : Bool) (k : r ≡ axis_meets side su.x sv.x sa.x sb.x) where
    pub over_not : r ≡ false → false ≡ overlaps m (node_at m u) (node_at m v) (node_at m a) (node_at m b)
    over_not h = rw (over_is, ← k, h)

    pub over_rest : r ≡ true → (t : Bool) → t ≡ axis_meets side su.y sv.y sa.y sb.y → t ≡ overlaps m (node_at m u) (node_at m v) (node_at m a) (node_at m b)
    over_rest h t z = rw (over_is, ← k, h) z

-- ---- a crossing

module _ (p q r s : Node) (x : Bool) where
  -- parted, by the side of the one
  pub parts_side : (d : Float) → d ≡ side p q r → x ≡ (d ⊗ side p q s ≺ 0·0) → x ≡ parts p q r s
  unfolding parts
  parts_side d e h = h ∙ ap (λ (z : Float). z ⊗ side p q s ≺ 0·0) e

  -- the second test, where the first passes
  pub cross_rest : parts p q r s ≡ true → x ≡ parts r s p q → x ≡ segments_cross p q r s
  unfolding segments_cross
  cross_rest h e = rw h e

-- a is an end
ends_a : (au bu av bv x y : Bool) → (not au && not av) ≡ false → false ≡ (not (au || bu) && not (av || bv) && x && y)
ends_a true bu av bv x y h = refl
ends_a false true true bv x y h = refl
ends_a false false true bv x y h = refl
ends_a false bu false bv x y h = absurd (true≢false h)

-- b is an end
ends_b : (au bu av bv x y : Bool) → (not bu && not bv) ≡ false → false ≡ (not (au || bu) && not (av || bv) && x && y)
ends_b true bu av bv x y h = refl
ends_b false true av bv x y h = refl
ends_b false false true bv x y h = refl
ends_b false false false true x y h = refl
ends_b false false false false x y h = absurd (true≢false h)

-- neither is
ends_not : (au bu av bv x y : Bool) → (not au && not av) ≡ true → (not bu && not bv) ≡ true → (not (au || bu) && not (av || bv) && x && y) ≡ (x && y)
ends_not true bu av bv x y h k = absurd (false≢true h)
ends_not false true av bv x y h k = absurd (false≢true k)
ends_not false false true bv x y h k = absurd (false≢true h)
ends_not false false false true x y h k = absurd (false≢true k)
ends_not false false false false x y h k = refl

module _ (m : Mesh) (u v a b : ℕ) where
  pub shares_a : (r : Bool) → r ≡ off_edge (u, v) a → r ≡ false → false ≡ is_crossing m u v (a, b)
  unfolding is_crossing touches off_edge
  shares_a r e h = ends_a (eqb a u) (eqb b u) (eqb a v) (eqb b v) _ _ (sym e ∙ h)

  pub shares_b : (r : Bool) → r ≡ off_edge (u, v) b → r ≡ false → false ≡ is_crossing m u v (a, b)
  unfolding is_crossing touches off_edge
  shares_b r e h = ends_b (eqb a u) (eqb b u) (eqb a v) (eqb b v) _ _ (sym e ∙ h)

  pub not_parted : (q : List Float) → Four q m u v a b → parts (point_at q u) (point_at q v) (point_at q a) (point_at q b) ≡ false → is_crossing m u v (a, b) ≡ false
  unfolding is_crossing segments_cross
  not_parted q f h = rw (f.u_is, f.v_is, f.a_is, f.b_is, h, and-false)

  module _ (r : Bool) (e : r ≡ off_edge (u, v) a) (h : r ≡ true) (t : Bool) (f : t ≡ off_edge (u, v) b) (k : t ≡ true) where
    apart_is : is_crossing m u v (a, b)
        ≡ (segments_cross (node_at m u) (node_at m v) (node_at m a) (node_at m b) && overlaps m (node_at m u) (node_at m v) (node_at m a) (node_at m b))
    unfolding is_crossing touches off_edge
    apart_is = ends_not (eqb a u) (eqb b u) (eqb a v) (eqb b v) _ _ (sym e ∙ h) (sym f ∙ k)

    module _ (q : List Float) (n : Four q m u v a b) (x : Bool) (c : x ≡ segments_cross (point_at q u) (point_at q v) (point_at q a) (point_at q b)) where
      segments_is : segments_cross (node_at m u) (node_at m v) (node_at m a) (node_at m b) ≡ x
      segments_is = (rw (n.u_is, n.v_is, n.a_is, n.b_is)) ∙ sym c

      pub parts_not : x ≡ false → false ≡ is_crossing m u v (a, b)
      parts_not z = rw (apart_is, segments_is, z)

      pub parts_rest : x ≡ true → (y : Bool) → y ≡ overlaps m (node_at m u) (node_at m v) (node_at m a) (node_at m b) → y ≡ is_crossing m u v (a, b)
      parts_rest z y o = rw (apart_is, segments_is, z) o

-- ---- nodes of the mesh in the slices

pub drawn_four : (q : List Float) (n : ℕ) (side : Float) (m : Mesh) → Drawn q n side m → (u v a b : ℕ) → u < n → v < n → a < n → b < n → Four q m u v a b
drawn_four q n side m d u v a b hu hv ha hb =
    let f = node_of m n q d.are in
    record { u_is = f u hu; v_is = f v hv; a_is = f a ha; b_is = f b hb }

module _ (w : List ℕ) (q : List Float) (s p n : ℕ) (side : Float) (m : Mesh) (k : Known w q s p n side m) where
  pub drawn : Drawn q n side m
  drawn = record { are = subst (λ (i : ℕ). m.points ≡ first_points i q) k.count k.pts.are; side = k.side }

  pub can_try : (u v a : ℕ) → Segment n u v → a < n → CanTry q n u v a
  can_try u v a g h = record { fits = omega (arith, k.pts.fits, k.pts.few, k.count); u_known = g.first; v_known = g.second; a_known = h }

  pub ring_read : (c : ℕ) → c < 4 * s + p → rings.CanRead w (5 * s) (4 * s + p) c
  ring_read c h = record { fits = omega (arith, k.rep.room.fits); code = h }

-- ---- the choice

module _ (m : Mesh) (u v a x best : ℕ) (r : Bool) (e : r ≡ is_crossing m u v (a, x)) where
  pub chosen : r ≡ true → x < best → a < x → Choice m u v a x best x
  chosen h l up = takes refl l up (sym e ∙ h)

  pub not_chosen : r ≡ false → Choice m u v a x best best
  not_chosen h = stays refl (λ l k t. false≢true (sym h ∙ (e ∙ t)))
