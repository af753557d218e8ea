-- x0 y0 + x1 y1 in floats: within 7 parts in 2 ^ prec of |x0 y0| + |x1 y1|, and 500 units. Assumes nothing.
use Rattle.std.specs.Prelude.{◌+◌, ◌-◌, ◌*◌, ◌^◌, ◌<◌, ◌≤◌}
use Rattle.laws.specs.Kit.{ℕ, arith, mul-le-mul, mul-le-mul_left, mul-le-mul_right, le_of_mul-le-mul_right, lit≤, pow_pos, Float, add, sub, mul}
use Rattle.std.specs.Float.{Format}
use Rattle.std.specs.Float.Ieee.{prec, low}
use Rattle.exact.specs.Near.{Whole, Near, Within, abs, ◌⊕◌, ◌⊖◌, ◌⊗◌, ◌⊙◌}
use Rattle.exact.proofs.Near.{near_trans, near_weaken, near_within, near_put, near_mul_rel, within_mul, within_put, within_cut, abs_within, abs_le, abs_scale}
use Rattle.exact.specs.Values.{whole, Ok}
use Rattle.exact.proofs.Values.{ok_finite, half_le, mul_rel}
use Rattle.exact.proofs.Sums.{add_near, sub_near}
use Rattle.exact.specs.Room.{Coord}
use Rattle.exact.proofs.Room.{Room, deeper, product_fits}
use Rattle.exact.specs.Dot.{dot, dotW, sizes}

pub dot_within : (x0 x1 y0 y1 : Whole) → Within (dotW x0 x1 y0 y1) (sizes x0 x1 y0 y1)
dot_within x0 x1 y0 y1 =
    let a = within_mul x0 y0 (abs x0) (abs y0) (abs_within x0) (abs_within y0) in
    let b = within_mul x1 y1 (abs x1) (abs y1) (abs_within x1) (abs_within y1) in
    omega arith

-- the numbers
product_err : (L Q a b : ℕ) → 16777216 ≤ Q → Q ≤ L → a ≤ 16 * L → b ≤ 16 * L → (a + 4 * Q) * (b * Q + (b + 4 * Q)) + (b + 4 * Q) * (a * Q) ≤ (3 * (a * b) + 200 * (Q * L)) * Q
product_err L Q a b h l x y =
    let u : a * Q ≤ 16 * L * Q = mul-le-mul_right Q x in
    let v : b * Q ≤ 16 * L * Q = mul-le-mul_right Q y in
    let w : 16777216 * (Q * L) ≤ Q * (Q * L) = mul-le-mul_right (Q * L) h in
    let s : Q * Q ≤ L * Q = mul-le-mul_right Q l in
    omega (arith, mul-le-mul_right (a * b) h, mul-le-mul_right Q u, mul-le-mul_right Q v)

within_product : (Q L a b : ℕ) → 16777216 ≤ Q → a * b * Q + (3 * (a * b) + 200 * (Q * L)) ≤ (2 * (a * b) + 200 * L) * Q
within_product Q L a b h = omega (arith, mul-le-mul_left (a * b) h)

product_most : (L a b : ℕ) → 0 < L → a ≤ 16 * L → b ≤ 16 * L → 2 * (a * b) + 200 * L ≤ 712 * L * L
product_most L a b P x y = omega (arith, mul-le-mul x y, mul-le-mul_left L P)

sum_both : (p0 p1 m0 m1 : Whole) (L Q s0 s1 N : ℕ) → Near (p0 ⊙ L ⊙ Q) (m0 ⊙ Q) (5 * s0 + N) → Near (p1 ⊙ L ⊙ Q) (m1 ⊙ Q) (5 * s1 + N) → Near ((p0 ⊕ p1) ⊙ L ⊙ Q) ((m0 ⊕ m1) ⊙ Q) (5 * (s0 + s1) + 2 * N)
sum_both p0 p1 m0 m1 L Q s0 s1 N h k = omega arith

sum_within : (p m : Whole) (L Q S : ℕ) → 16777216 ≤ Q → Near (p ⊙ L ⊙ Q) (m ⊙ Q) (5 * S + 420 * (Q * L)) → Within m S → Within (p ⊙ L) (2 * S + 420 * L)
sum_within p m L Q S h k w = within_cut (p ⊙ L) (2 * S + 420 * L) Q (omega arith) (omega (arith, k, within_put m S Q w, mul-le-mul_right S h))

sum_small : (L B S : ℕ) → 0 < L → B * L ≤ 2 * S + 420 * L → S ≤ 512 * L * L → B ≤ 2048 * L
sum_small L B S P h k = le_of_mul-le-mul_right (omega (arith, mul-le-mul_left L P)) P

rounded_sum : (d p m : Whole) (L Q S B : ℕ) → 16777216 ≤ Q → Near (d ⊙ Q) (p ⊙ Q) (B + 4 * Q) → B * L ≤ 2 * S + 420 * L → Near (p ⊙ L ⊙ Q) (m ⊙ Q) (5 * S + 420 * (Q * L)) → Near (d ⊙ L ⊙ Q) (m ⊙ Q) (7 * S + 500 * (Q * L))
rounded_sum d p m L Q S B P h k n = omega (arith, near_put (d ⊙ Q) (p ⊙ Q) (B + 4 * Q) L h, mul-le-mul_right L P)

sizes_small : (L a b c d : ℕ) → a ≤ 16 * L → b ≤ 16 * L → c ≤ 16 * L → d ≤ 16 * L → a * b + c * d ≤ 512 * L * L
sizes_small L a b c d h k l m = omega (arith, mul-le-mul h k, mul-le-mul l m)

dot_small : (d m : Whole) (L Q S : ℕ) → 0 < L → 16777216 ≤ Q → Near (d ⊙ L ⊙ Q) (m ⊙ Q) (7 * S + 500 * (Q * L)) → Within m S → S ≤ 512 * L * L → Within d (2048 * L)
dot_small d m L Q S P h n w s =
    let i : Within (d ⊙ L) (2 * S + 500 * L) = within_cut (d ⊙ L) (2 * S + 500 * L) Q (omega arith) (omega (arith, n, within_put m S Q w, mul-le-mul_right S h)) in
    within_cut d (2048 * L) L P (omega (arith, i, mul-le-mul_left L P))

module _ (f : Format) (q : ℕ) (R : Room f q) where
  -- x is a component of a difference vector, worked out in floats; z is the exact one
  abbrev pub Comp : Float → Whole → Type 0
  Comp x z = Ok f x × Near (whole f x ⊙ 2 ^ prec f) (z ⊙ 2 ^ prec f) (abs z + 4 * 2 ^ prec f) × (abs z ≤ 16 * 2 ^ low f)

  pub comp : (x y : Float) → Coord f 8 x → Coord f 8 y → Comp (sub f x y) (whole f x ⊖ whole f y)
  comp x y h k =
      let z = whole f x ⊖ whole f y in
      let l : abs z ≤ 16 * 2 ^ low f = abs_le z (16 * 2 ^ low f) (omega (arith, h.1, k.1)) in
      let s = sub_near f x y (abs z) h.0 k.0 (abs_within z) (omega (arith, R.wide, pow_pos (low f))) in
      (s.0, s.1, l)

  pub product : (x y : Float) (z w : Whole) → Comp x z → Comp y w → Ok f (mul f x y) × Near (whole f (mul f x y) ⊙ 2 ^ low f ⊙ 2 ^ prec f) (z ⊗ w ⊙ 2 ^ prec f) (5 * (abs z * abs w) + 210 * (2 ^ prec f * 2 ^ low f))
  product x y z w h k =
      let L = 2 ^ low f in
      let Q = 2 ^ prec f in
      let H = 2 ^ (prec f - 1) in
      let X = whole f x in
      let Y = whole f y in
      let a = abs z in
      let b = abs w in
      let n = near_mul_rel X Y z w Q a b (a + 4 * Q) (b + 4 * Q) (3 * (a * b) + 200 * (Q * L)) (pow_pos (prec f)) h.1 k.1 (abs_within z) (abs_within w) (product_err L Q a b R.deep (deeper f q R) h.2 k.2) in
      let i : Within (X ⊗ Y) (2 * (a * b) + 200 * L) = within_cut (X ⊗ Y) (2 * (a * b) + 200 * L) Q (pow_pos (prec f))
      (omega (arith, near_within (X ⊗ Y ⊙ Q) (z ⊗ w ⊙ Q) (3 * (a * b) + 200 * (Q * L)) (a * b * Q) n (within_put (z ⊗ w) (a * b) Q (within_mul z w a b (abs_within z) (abs_within w))), within_product Q L a b R.deep)) in
      let m = mul_rel f x y (2 * (a * b) + 200 * L) h.0 k.0 i (product_fits f q R 712 (2 * (a * b) + 200 * L) (lit≤ tt) (product_most L a b (pow_pos (low f)) h.2 k.2)) in
      let r = whole f (mul f x y) ⊙ L ⊙ Q in (
        m.0,
        near_weaken r (z ⊗ w ⊙ Q) (2 * (a * b) + 200 * L + H * L + (3 * (a * b) + 200 * (Q * L))) (5 * (a * b) + 210 * (Q * L)) (omega (arith, mul-le-mul_right L (half_le f), mul-le-mul_right L R.deep))
            (near_trans r (X ⊗ Y ⊙ Q) (z ⊗ w ⊙ Q) (2 * (a * b) + 200 * L + H * L) (3 * (a * b) + 200 * (Q * L)) m.1 n),
      )

  pub dot_near : (x0 x1 y0 y1 : Float) (z0 z1 w0 w1 : Whole) → Comp x0 z0 → Comp x1 z1 → Comp y0 w0 → Comp y1 w1
      → Ok f (dot f x0 x1 y0 y1) × Near (whole f (dot f x0 x1 y0 y1) ⊙ 2 ^ low f ⊙ 2 ^ prec f) (dotW z0 z1 w0 w1 ⊙ 2 ^ prec f) (7 * sizes z0 z1 w0 w1 + 500 * (2 ^ prec f * 2 ^ low f))
  unfolding dot
  dot_near x0 x1 y0 y1 z0 z1 w0 w1 hx hx' hy hy' =
      let L = 2 ^ low f in
      let Q = 2 ^ prec f in
      let S = sizes z0 z1 w0 w1 in
      let p = whole f (mul f x0 y0) ⊕ whole f (mul f x1 y1) in
      let a = product x0 y0 z0 w0 hx hy in
      let b = product x1 y1 z1 w1 hx' hy' in
      let n : Near (p ⊙ L ⊙ Q) (dotW z0 z1 w0 w1 ⊙ Q) (5 * S + 420 * (Q * L)) = omega (arith, sum_both (whole f (mul f x0 y0)) (whole f (mul f x1 y1)) (z0 ⊗ w0) (z1 ⊗ w1) L Q (abs z0 * abs w0) (abs z1 * abs w1) (210 * (Q * L)) a.1 b.1) in
      let i = sum_within p (dotW z0 z1 w0 w1) L Q S R.deep n (dot_within z0 z1 w0 w1) in
      let B = abs_scale p L (2 * S + 420 * L) i in
      let l = sum_small L (abs p) S (pow_pos (low f)) B (sizes_small L (abs z0) (abs w0) (abs z1) (abs w1) hx.2 hy.2 hx'.2 hy'.2) in
      let s = add_near f (mul f x0 y0) (mul f x1 y1) (abs p) (ok_finite f (mul f x0 y0) a.0) (ok_finite f (mul f x1 y1) b.0) (abs_within p) (omega (arith, R.wide, pow_pos (low f))) in
      (s.0, rounded_sum (whole f (dot f x0 x1 y0 y1)) p (dotW z0 z1 w0 w1) L Q S (abs p) R.deep s.1 B n)

  pub dot_bound : (x0 x1 y0 y1 : Float) (z0 z1 w0 w1 : Whole) → Comp x0 z0 → Comp x1 z1 → Comp y0 w0 → Comp y1 w1 → Within (whole f (dot f x0 x1 y0 y1)) (2048 * 2 ^ low f)
  dot_bound x0 x1 y0 y1 z0 z1 w0 w1 hx hx' hy hy' =
      dot_small (whole f (dot f x0 x1 y0 y1)) (dotW z0 z1 w0 w1) (2 ^ low f) (2 ^ prec f) (sizes z0 z1 w0 w1) (pow_pos (low f)) R.deep (dot_near x0 x1 y0 y1 z0 z1 w0 w1 hx hx' hy hy').1 (dot_within z0 z1 w0 w1)
      (sizes_small (2 ^ low f) (abs z0) (abs w0) (abs z1) (abs w1) hx.2 hy.2 hx'.2 hy'.2)
