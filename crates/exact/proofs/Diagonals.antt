-- On the grid of 1 / 1024 a flip keeps the summed area of its two triangles, whatever their winding:
use Rattle.std.specs.Prelude.{◌≡◌, ◌⊎◌, ◌+◌, ◌*◌, ◌^◌, ◌<◌}
use Rattle.laws.specs.Kit.{refl, sym, ◌∙◌, ap, ap₂, inl, inr, true, not, ℕ, arith, lit<, lit≤, not-true, binary64, le, mul}
use Rattle.definition.specs.Floats.{◌≼◌, 0·0}
use Rattle.definition.specs.Floats as floats
use Rattle.definition.specs.Plane.{Node, side}
use Rattle.definition.specs.Plane as plane
use Rattle.definition.specs.Exact.{twice_tri}
use Rattle.exact.specs.Near.{Whole, Near, abs, ◌⊖◌, ◌⊗◌}
use Rattle.exact.specs.Values.{whole}
use Rattle.exact.specs.Order.{◌⊏◌}
use Rattle.exact.proofs.Order.{not_le}
use Rattle.exact.specs.Cross.{crossW}
use Rattle.exact.proofs.Exactly.{in_units}
use Rattle.exact.proofs.Points.{zero_ok, zero_is}
use Rattle.exact.proofs.Room.{room64}
use Rattle.exact.proofs.Finite.{side_ok, sides_ok}
use Rattle.exact.proofs.Crossing.{product_sign}
use Rattle.exact.specs.Areas.{Placed, X, Y}
use Rattle.exact.proofs.Areas.{turn, cross_is_turn, tri_parts, abs_other}
use Rattle.exact.specs.Diagonals.{Opposite}

spread : (A B : Whole) → Opposite A B → abs A + abs B ≡ abs (A ⊖ B)
unfolding abs
spread A B (inl h) = omega arith
spread A B (inr h) = omega arith

opposite_sum : (A B C D : Whole) → Opposite A B → Opposite C D → Near (A ⊖ B) (D ⊖ C) 0 → abs A + abs B ≡ abs C + abs D
opposite_sum A B C D h k e = spread A B h ∙ abs_other (A ⊖ B) (C ⊖ D) (other A B C D e) ∙ sym (spread C D k)
  where
    other : (A B C D : Whole) → Near (A ⊖ B) (D ⊖ C) 0 → Near (A ⊖ B) ((C ⊖ D).1, (C ⊖ D).0) 0
    other A B C D e = omega arith

-- the cross products of one side with p and with q differ by that of the side with the way from q to p
less : (d e px py qx qy ux uy : Whole) → Near ((d ⊗ (py ⊖ uy) ⊖ e ⊗ (px ⊖ ux)) ⊖ (d ⊗ (qy ⊖ uy) ⊖ e ⊗ (qx ⊖ ux))) (d ⊗ (py ⊖ qy) ⊖ e ⊗ (px ⊖ qx)) 0
less d e px py qx qy ux uy = omega arith

diagonals : (ux uy vx vy px py qx qy : Whole) → Near (crossW ux uy vx vy px py ⊖ crossW ux uy vx vy qx qy) (crossW px py qx qy vx vy ⊖ crossW px py qx qy ux uy) 0
diagonals ux uy vx vy px py qx qy =
    chain (crossW ux uy vx vy px py ⊖ crossW ux uy vx vy qx qy) ((vx ⊖ ux) ⊗ (py ⊖ qy) ⊖ (vy ⊖ uy) ⊗ (px ⊖ qx)) ((qx ⊖ px) ⊗ (vy ⊖ uy) ⊖ (qy ⊖ py) ⊗ (vx ⊖ ux)) (crossW px py qx qy vx vy ⊖ crossW px py qx qy ux uy)
    (less (vx ⊖ ux) (vy ⊖ uy) px py qx qy ux uy) (middle (vx ⊖ ux) (vy ⊖ uy) px py qx qy) (less (qx ⊖ px) (qy ⊖ py) vx vy ux uy px py)
  where
    middle : (d e px py qx qy : Whole) → Near (d ⊗ (py ⊖ qy) ⊖ e ⊗ (px ⊖ qx)) ((qx ⊖ px) ⊗ e ⊖ (qy ⊖ py) ⊗ d) 0
    middle d e px py qx qy = omega arith

    chain : (x m n y : Whole) → Near x m 0 → Near m n 0 → Near y n 0 → Near x y 0
    chain x m n y h k l = omega arith

module _ (p q r s : Node) (gp : Placed p) (gq : Placed q) (gr : Placed r) (gs : Placed s) where
  -- the test that r and s are apart, of the definition's flip
  apart_exactly : not (0·0 ≼ floats.◌⊗◌ (side p q r) (side p q s)) ≡ true → Opposite (turn p q r gp gq gr) (turn p q s gp gq gs)
  unfolding side floats.◌⊗◌ ◌≼◌
  apart_exactly h =
      let x = plane.cross p q r in
      let y = plane.cross p q s in
      let a = side_ok p q r gp.at gq.at gr.at in
      let b = side_ok p q s gp.at gq.at gs.at in
      (product_sign binary64 (2 ^ 1021) room64 x y (turn p q r gp gq gr) (turn p q s gp gq gs) (2 ^ 1054) a.0 b.0 a.1 b.1 (lit≤ tt)
      (in_units binary64 1048576 1054 refl 536870912 (lit< tt) (lit< tt) x (turn p q r gp gq gr) (cross_is_turn p q r gp gq gr))
      (in_units binary64 1048576 1054 refl 536870912 (lit< tt) (lit< tt) y (turn p q s gp gq gs) (cross_is_turn p q s gp gq gs))).0
      (below (whole binary64 (mul binary64 x y)) (whole binary64 0·0) zero_is (not_le binary64 0·0 (mul binary64 x y) zero_ok (sides_ok p q r s gp.at gq.at gr.at gs.at) (not-true (le 0·0 (mul binary64 x y)) h)))
    where
      below : (z t : Whole) → t ≡ (0, 0) → z ⊏ t → z.0 < z.1
      below z t e = rw e (λ h. omega arith)

-- The edge u v with p and q on its two sides, and the edge p q with u and v on its two sides:
-- the triangles on the one have together the area of those on the other.
pub flip_areas : (u v p q : Node) → Placed u → Placed v → Placed p → Placed q
    → not (0·0 ≼ floats.◌⊗◌ (side u v p) (side u v q)) ≡ true → not (0·0 ≼ floats.◌⊗◌ (side p q u) (side p q v)) ≡ true
    → twice_tri u v p + twice_tri u v q ≡ twice_tri p q u + twice_tri p q v
flip_areas u v p q gu gv gp gq h k =
    let A = turn u v p gu gv gp in
    let B = turn u v q gu gv gq in
    let C = turn p q u gp gq gu in
    let D = turn p q v gp gq gv in
    let e = opposite_sum A B C D (apart_exactly u v p q gu gv gp gq h) (apart_exactly p q u v gp gq gu gv k) (diagonals (X u gu) (Y u gu) (X v gv) (Y v gv) (X p gp) (Y p gp) (X q gq) (Y q gq)) in
    ap₂ (λ (x y : ℕ). x + y) (tri_parts u v p gu gv gp) (tri_parts u v q gu gv gq)
    ∙ times (abs A) (abs B) (abs C) (abs D) (2 ^ 1064 * 2 ^ 1064) e
    ∙ sym (ap₂ (λ (x y : ℕ). x + y) (tri_parts p q u gp gq gu) (tri_parts p q v gp gq gv))
  where
    times : (a b c d J : ℕ) → a + b ≡ c + d → a * J + b * J ≡ c * J + d * J
    times a b c d J e = omega (arith, ap (λ (z : ℕ). z * J) e)
