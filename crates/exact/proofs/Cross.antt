-- The cross product of (b - a) and (c - a), worked out in floats, lies within 6600 units q L of the exact one,
use Rattle.std.specs.Prelude.{◌+◌, ◌*◌, ◌^◌, ◌≤◌}
use Rattle.laws.specs.Kit.{ℕ, arith, mul-le-mul_right, lit≤, pow_pos, Float, sub, mul}
use Rattle.std.specs.Float.{Format}
use Rattle.std.specs.Float.Ieee.{low}
use Rattle.exact.specs.Near.{Whole, Near, Within, ◌⊖◌, ◌⊗◌, ◌⊙◌}
use Rattle.exact.proofs.Near.{near_trans, near_weaken, near_sub, near_within, near_mul, near_put, within_mul, within_cut}
use Rattle.exact.specs.Room.{Coord}
use Rattle.exact.proofs.Room.{Room, fine, four, product_err, product_fits}
use Rattle.exact.specs.Values.{whole, Ok}
use Rattle.exact.proofs.Values.{ok_finite, mul_got}
use Rattle.exact.proofs.Sums.{sub_got}
use Rattle.exact.specs.Cross.{cross, crossW}

-- the numbers
square : (L q : ℕ) → 16777216 * q ≤ L → 17 * L * (49 * L) + 834 * (q * L) ≤ 834 * L * L
square L q h = omega (arith, mul-le-mul_right L h)

module _ (f : Format) (q : ℕ) (R : Room f q) where
  -- a difference of two coordinates
  abbrev Step : ℕ → Float → Whole → Type 0
  Step B r z = Ok f r × Near (whole f r) z (B * q + q) × Within (whole f r) (B * 2 ^ low f + 2 ^ low f) × Within z (B * 2 ^ low f)

  pub near_step : (x y : Float) → Coord f 8 x → Coord f 8 y → Step 16 (sub f x y) (whole f x ⊖ whole f y)
  near_step x y h k =
      let L = 2 ^ low f in
      let s = sub_got f x y (8 * L) (8 * L) (16 * q) h.0 k.0 h.1 k.1 (omega (arith, R.unit)) (omega (arith, fine f q R, four f q R, R.wide, pow_pos (low f))) in
      (s.0, omega (arith, s.1, four f q R), omega (arith, s.1, h.1, k.1, fine f q R, four f q R), omega (arith, h.1, k.1))

  far_step : (x y : Float) → Coord f 40 x → Coord f 8 y → Step 48 (sub f x y) (whole f x ⊖ whole f y)
  far_step x y h k =
      let L = 2 ^ low f in
      let s = sub_got f x y (40 * L) (8 * L) (48 * q) h.0 k.0 h.1 k.1 (omega (arith, R.unit)) (omega (arith, fine f q R, four f q R, R.wide, pow_pos (low f))) in
      (s.0, omega (arith, s.1, four f q R), omega (arith, s.1, h.1, k.1, fine f q R, four f q R), omega (arith, h.1, k.1))

  -- a product of two differences
  abbrev Part : Float → Whole → Type 0
  Part r z = Ok f r × Near (whole f r ⊙ 2 ^ low f) z (2451 * (q * 2 ^ low f)) × Within (whole f r) (834 * 2 ^ low f)

  part : (x y : Float) (z w : Whole) → Step 16 x z → Step 48 y w → Part (mul f x y) (z ⊗ w)
  part x y z w h k =
      let L = 2 ^ low f in
      let r = whole f (mul f x y) in
      let X = whole f x in
      let Y = whole f y in
      let i : Within X (17 * L) = omega (arith, h.2) in
      let j : Within Y (49 * L) = omega (arith, k.2) in
      let s = mul_got f x y (17 * L) (49 * L) (834 * (q * L)) h.0 k.0 i j (product_err f q R 833 (17 * L * (49 * L)) (omega arith)) (product_fits f q R 833 (17 * L * (49 * L)) (lit≤ tt) (omega arith)) in
      let n = near_mul X z Y w (17 * q) (49 * q) (16 * L) (49 * L) (omega (arith, h.1)) (omega (arith, k.1)) h.3 j in
      let b = near_within (r ⊙ L) (X ⊗ Y) (834 * (q * L)) (17 * L * (49 * L)) s.1 (within_mul X Y (17 * L) (49 * L) i j) in (
        s.0,
        near_weaken (r ⊙ L) (z ⊗ w) (834 * (q * L) + (17 * q * (49 * L) + 49 * q * (16 * L))) (2451 * (q * L)) (omega arith) (near_trans (r ⊙ L) (X ⊗ Y) (z ⊗ w) (834 * (q * L)) (17 * q * (49 * L) + 49 * q * (16 * L)) s.1 n),
        within_cut r (834 * L) L (pow_pos (low f)) (omega (arith, b, square L q (fine f q R))),
      )

  -- their difference
  last : (x y : Float) (z w : Whole) → Part x z → Part y w → Ok f (sub f x y) × Near (whole f (sub f x y) ⊙ 2 ^ low f) (z ⊖ w) (6600 * (q * 2 ^ low f))
  last x y z w h k =
      let L = 2 ^ low f in
      let X = whole f x in
      let Y = whole f y in
      let s = sub_got f x y (834 * L) (834 * L) (1668 * q) (ok_finite f x h.0) (ok_finite f y k.0) h.2 k.2 (omega (arith, R.unit)) (omega (arith, fine f q R, four f q R, R.wide, pow_pos (low f))) in
      let p = near_put (whole f (sub f x y)) (X ⊖ Y) (1668 * q + 4) L s.1 in
      let d = near_sub (X ⊙ L) z (Y ⊙ L) w (2451 * (q * L)) (2451 * (q * L)) h.1 k.1 in
      (s.0, omega (arith, p, d, mul-le-mul_right L (four f q R)))

  pub cross_near : (ax ay bx by cx cy : Float) → Coord f 8 ax → Coord f 8 ay → Coord f 8 bx → Coord f 8 by → Coord f 40 cx → Coord f 40 cy
      → Ok f (cross f ax ay bx by cx cy) × Near (whole f (cross f ax ay bx by cx cy) ⊙ 2 ^ low f) (crossW (whole f ax) (whole f ay) (whole f bx) (whole f by) (whole f cx) (whole f cy)) (6600 * (q * 2 ^ low f))
  unfolding cross
  cross_near ax ay bx by cx cy a a' b b' c c' =
      let u = part (sub f bx ax) (sub f cy ay) (whole f bx ⊖ whole f ax) (whole f cy ⊖ whole f ay) (near_step bx ax b a) (far_step cy ay c' a') in
      let v = part (sub f by ay) (sub f cx ax) (whole f by ⊖ whole f ay) (whole f cx ⊖ whole f ax) (near_step by ay b' a') (far_step cx ax c a) in
      last (mul f (sub f bx ax) (sub f cy ay)) (mul f (sub f by ay) (sub f cx ax)) ((whole f bx ⊖ whole f ax) ⊗ (whole f cy ⊖ whole f ay)) ((whole f by ⊖ whole f ay) ⊗ (whole f cx ⊖ whole f ax)) u v
