-- The float test for a point strictly inside a triangle within 8, made at a point within 40:
use Rattle.std.specs.Prelude.{◌≡◌, ◌&&◌, ◌+◌, ◌*◌, ◌^◌, ◌<◌, ◌≤◌}
use Rattle.laws.specs.Kit.{refl, ap, inl, inr, true, false, not, ℕ, arith, T, Float, binary64, fin, of_bits, fits, neg}
use Rattle.std.specs.Float.Ieee.Fits.{and_l, and_r, and_i}
use Rattle.definition.specs.Floats.{◌≺◌, ◌≼◌, f64, 8·0, 1e-12}
use Rattle.definition.specs.Floats as floats
use Rattle.definition.specs.Plane.{Node, positive, negative, point_strictly_inside}
use Rattle.definition.specs.Plane as plane
use Rattle.definition.specs.Call.{outside, most_coordinate}
use Rattle.laws.specs.Bools.{of_T, to_T, TOr}
use Rattle.exact.specs.Near.{Whole, Within, Above}
use Rattle.exact.specs.Values.{whole, mag, Ok}
use Rattle.exact.specs.Order.{◌⊑◌}
use Rattle.exact.proofs.Order.{lt_whole, whole_le}
use Rattle.exact.specs.Units.{W}
use Rattle.exact.specs.Points.{At, exactly}
use Rattle.exact.proofs.Points.{cross_ok, cross_above, cross_below, tiny_ok, minus_ok}
use Rattle.exact.proofs.Quads.{tiny}
use Rattle.exact.proofs.Hull.{inside_left, inside_right}
use Rattle.exact.specs.Strict.{Doubles}

-- ---- a double of magnitude at most 8 passes the definition's test
eight_ok : Ok binary64 most_coordinate
unfolding most_coordinate 8·0 f64 of_bits fits
eight_ok = tt

eight_is : whole binary64 most_coordinate ≡ (8 * 2 ^ 1074, 0)
unfolding most_coordinate 8·0 f64 of_bits whole
eight_is = refl

abs_ok : (x : Float) → Ok binary64 x → Ok binary64 (floats.abs x)
unfolding floats.abs fits
abs_ok (lib.Ieee.inf _) o = elim o [ ]
abs_ok lib.Ieee.nan o = elim o [ ]
abs_ok (fin s m e) o = o

abs_up : (x : Float) (B : ℕ) → Ok binary64 x → Within (whole binary64 x) B → (whole binary64 (floats.abs x)).0 ≤ B + (whole binary64 (floats.abs x)).1
unfolding floats.abs whole
abs_up (lib.Ieee.inf _) B o h = elim o [ ]
abs_up lib.Ieee.nan B o h = elim o [ ]
abs_up (fin false m e) B o h = small (mag binary64 (fin false m e)) h.0
  where
    small : (a : ℕ) → a ≤ 0 + B → a ≤ B + 0
    small a l = omega arith
abs_up (fin true m e) B o h = small (mag binary64 (fin true m e)) h.1
  where
    small : (a : ℕ) → a ≤ 0 + B → a ≤ B + 0
    small a l = omega arith

in_range : (x : Float) → Ok binary64 x → Within (whole binary64 x) (8 * 2 ^ 1074) → T (floats.abs x ≼ most_coordinate)
unfolding ◌≼◌
in_range x o h = whole_le binary64 (floats.abs x) most_coordinate (abs_ok x o) eight_ok (rw eight_is (flip (whole binary64 (floats.abs x)) (8 * 2 ^ 1074) (abs_up x (8 * 2 ^ 1074) o h)))
  where
    flip : (z : Whole) (B : ℕ) → z.0 ≤ B + z.1 → z ⊑ (B, 0)
    flip z B l = omega arith

pub not_outside : (p : Node) → Doubles p → Within (W p.x) (8 * 2 ^ 1074) → Within (W p.y) (8 * 2 ^ 1074) → outside p ≡ false
unfolding outside
not_outside p o h k = ap not (of_T (floats.abs p.x ≼ most_coordinate && floats.abs p.y ≼ most_coordinate) (and_i (floats.abs p.x ≼ most_coordinate) (floats.abs p.y ≼ most_coordinate) (in_range p.x o.0 h) (in_range p.y o.1 k)))

-- ---- the test
less : (C : Whole) (B : ℕ) → C.1 + B < C.0 → C.1 < C.0
less C B l = omega arith

more : (C : Whole) (B : ℕ) → C.0 + B < C.1 → C.0 < C.1
more C B l = omega arith

left_turn : (a b p : Node) → At 8 a → At 8 b → At 40 p → T (positive (plane.cross a b p)) → Above (exactly a b p)
unfolding positive ◌≺◌
left_turn a b p h k l t =
    let d = plane.cross a b p in
    less (exactly a b p) (2 ^ 1021 * 2 ^ 1074) (cross_above a b p h k l (lt_whole binary64 1e-12 d tiny_ok (cross_ok a b p h k l).0 (rw tiny at t)))

right_turn : (a b p : Node) → At 8 a → At 8 b → At 40 p → T (negative (plane.cross a b p)) → (exactly a b p).0 < (exactly a b p).1
unfolding negative ◌≺◌
right_turn a b p h k l t =
    let d = plane.cross a b p in
    more (exactly a b p) (2 ^ 1021 * 2 ^ 1074) (cross_below a b p h k l (lt_whole binary64 d (neg 1e-12) (cross_ok a b p h k l).0 minus_ok (rw tiny at t)))

pub strictly_inside : (a b c p : Node) → At 8 a → At 8 b → At 8 c → At 40 p → point_strictly_inside a b c p ≡ true → Within (W p.x) (8 * 2 ^ 1074) × Within (W p.y) (8 * 2 ^ 1074)
unfolding point_strictly_inside
strictly_inside a b c p A B C P e =
    let d0 = plane.cross a b p in
    let d1 = plane.cross b c p in
    let d2 = plane.cross c a p in
    let left = positive d0 && positive d1 && positive d2 in
    let right = negative d0 && negative d1 && negative d2 in
    elim (TOr left right (to_T e)) [
      | inl t ↦
          let t01 = and_l (positive d0 && positive d1) (positive d2) t in
          inside_left (W a.x) (W a.y) (W b.x) (W b.y) (W c.x) (W c.y) (W p.x) (W p.y) (8 * 2 ^ 1074) A.0.1 A.1.1 B.0.1 B.1.1 C.0.1 C.1.1
          (left_turn a b p A B P (and_l (positive d0) (positive d1) t01), left_turn b c p B C P (and_r (positive d0) (positive d1) t01), left_turn c a p C A P (and_r (positive d0 && positive d1) (positive d2) t))
      | inr t ↦
          let t01 = and_l (negative d0 && negative d1) (negative d2) t in
          inside_right (W a.x) (W a.y) (W b.x) (W b.y) (W c.x) (W c.y) (W p.x) (W p.y) (8 * 2 ^ 1074) A.0.1 A.1.1 B.0.1 B.1.1 C.0.1 C.1.1
          (right_turn a b p A B P (and_l (negative d0) (negative d1) t01), right_turn b c p B C P (and_r (negative d0) (negative d1) t01), right_turn c a p C A P (and_r (negative d0 && negative d1) (negative d2) t))
    ]
