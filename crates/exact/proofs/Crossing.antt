-- The test for crossing segments and the strict-inside test on the grid of 1 / 1024: what they say is exact.
use Rattle.std.specs.Prelude.{◌≡◌, ◌⊎◌, ◌&&◌, ◌||◌, ◌+◌, ◌-◌, ◌*◌, ◌^◌, ◌<◌, ◌≤◌}
use Rattle.laws.specs.Kit.{refl, sym, ap, subst, inl, inr, Bool, true, false, ℕ, suc, arith, dec_lt, mul-le-mul_left, mul-le-mul_right, mul-lt-mul_of_pos_right, lit≤, pow_pos, Float, binary64, neg, mul}
use Rattle.std.proofs.Common.{lt_of_mul-lt-mul_right, add-sub_of_le}
use Rattle.std.specs.Float.{Format}
use Rattle.std.specs.Float.Ieee.{prec, low}
use Rattle.definition.specs.Floats.{◌≺◌, 0·0, 1e-12}
use Rattle.definition.specs.Floats as floats
use Rattle.definition.specs.Numbers.{tiny_cross}
use Rattle.definition.specs.Plane.{Node, side, cross, parts, segments_cross, positive, negative, point_strictly_inside}
use Rattle.definition.specs.Exact.{arrow, exact_cross, AboveZero}
use Rattle.exact.specs.Near.{Whole, Near, Within, abs, ◌⊗◌, ◌⊙◌}
use Rattle.exact.proofs.Near.{same_times, near_same, within_mul, abs_within, abs_le, abs_turned}
use Rattle.exact.proofs.Round.{twice}
use Rattle.exact.specs.Values.{whole, Ok}
use Rattle.exact.proofs.Values.{prec_pos, mul_rel}
use Rattle.exact.specs.Order.{◌⊏◌}
use Rattle.exact.proofs.Order.{is_not}
use Rattle.exact.proofs.Room.{Room, room64, product_fits}
use Rattle.exact.specs.Points.{At}
use Rattle.exact.proofs.Points.{zero_ok, zero_is}
use Rattle.exact.proofs.Finite.{side_ok, sides_ok}
use Rattle.exact.specs.Grid.{GridPoint}
use Rattle.exact.specs.Sides.{BelowZero, SameAs}
use Rattle.exact.proofs.Sides.{through, back, decided, float_parts, exact_above, exact_below, left_exactly, right_exactly}
use Rattle.exact.proofs.Sides as sides
use Rattle.exact.specs.Crossing.{Apart, StrictlyIn, TwoSides}

-- ---- the sign of a product of whole numbers
less_product : (u v p q : ℕ) → v < u → p < q → u * p + v * q < u * q + v * p
less_product u v p q h k =
    let d = q - p in
    let e : p + d ≡ q = add-sub_of_le (omega arith) in
    let i : v * d < u * d = mul-lt-mul_of_pos_right h (omega arith) in
    omega (arith, ap (λ (z : ℕ). u * z) e, ap (λ (z : ℕ). v * z) e)

most_product : (u v p q : ℕ) → v ≤ u → q ≤ p → u * q + v * p ≤ u * p + v * q
most_product u v p q h k =
    let d = p - q in
    let e : q + d ≡ p = add-sub_of_le k in
    let i : v * d ≤ u * d = mul-le-mul_right d h in
    omega (arith, ap (λ (z : ℕ). u * z) e, ap (λ (z : ℕ). v * z) e)

apart_product : (j k : Whole) → Apart j k → (j ⊗ k).0 < (j ⊗ k).1
apart_product j k (inl h) = less_product j.0 j.1 k.0 k.1 h.0 h.1
apart_product j k (inr h) = let l = less_product j.1 j.0 k.1 k.0 h.0 h.1 in omega arith

product_apart : (j k : Whole) → (j ⊗ k).0 < (j ⊗ k).1 → Apart j k
product_apart j k h = go (dec_lt j.1 j.0) (dec_lt k.0 k.1) (dec_lt j.0 j.1) (dec_lt k.1 k.0)
  where
    clash : j.1 ≤ j.0 → k.1 ≤ k.0 → ⊥
    clash a b = let l = most_product j.0 j.1 k.0 k.1 a b in omega arith

    clash' : j.0 ≤ j.1 → k.0 ≤ k.1 → ⊥
    clash' a b = let l = most_product j.1 j.0 k.1 k.0 a b in omega arith

    at_most : (a b : ℕ) → (a < b → ⊥) → b ≤ a
    at_most a b n = elim (dec_lt a b) [ yes l ↦ absurd (n l) | no l ↦ omega arith ]

    loosen : (a b : ℕ) → a < b → a ≤ b
    loosen a b l = omega arith

    go : Dec (j.1 < j.0) → Dec (k.0 < k.1) → Dec (j.0 < j.1) → Dec (k.1 < k.0) → Apart j k
    go (yes a) (yes b) c d = inl (a, b)
    go (yes a) (no b) c d = absurd (clash (loosen j.1 j.0 a) (at_most k.0 k.1 b))
    go (no a) b (yes c) (yes d) = inr (c, d)
    go (no a) b (yes c) (no d) = absurd (clash' (loosen j.0 j.1 c) (at_most k.1 k.0 d))
    go (no a) (yes b) (no c) d = absurd (clash' (at_most j.1 j.0 a) (loosen k.0 k.1 b))
    go (no a) (no b) (no c) d = absurd (clash (at_most j.0 j.1 c) (at_most k.0 k.1 b))

-- ---- of the rounded product
abs_below : (z : Whole) → z.0 ≤ z.1 → z.0 + abs z ≡ z.1
unfolding abs
abs_below z h = omega arith

-- z is below zero by b
rounded_below : (r z : Whole) (b L Q H : ℕ) → 0 < L → H + 2 ≤ Q → L ≤ b → z.0 + b ≡ z.1 → Near (r ⊙ L ⊙ Q) (z ⊙ Q) (b + H * L) → r.0 < r.1
rounded_below r z b L Q H P q l e n =
    let i : b * H + 2 * b ≤ b * Q = omega (arith, mul-le-mul_left b q) in
    let j : L * H ≤ b * H = mul-le-mul_right H l in
    let k : r.0 * L * Q < r.1 * L * Q = omega (arith, n.0, ap (λ (x : ℕ). x * Q) e) in
    lt_of_mul-lt-mul_right L (lt_of_mul-lt-mul_right Q k)

-- z is zero
rounded_zero : (r z : Whole) (b L Q H : ℕ) → 0 < L → H + 2 ≤ Q → b ≡ 0 → z.0 ≡ z.1 → Near (r ⊙ L ⊙ Q) (z ⊙ Q) (b + H * L) → r.0 < r.1 → ⊥
rounded_zero r z b L Q H P q b0 e n h =
    let i : r.0 * L * Q + L * Q ≤ r.1 * L * Q = omega (arith, mul-le-mul_right (L * Q) h) in
    let j : L * H + 2 * L ≤ L * Q = omega (arith, mul-le-mul_left L q) in
    omega (arith, n.1, ap (λ (x : ℕ). x * Q) e)

multiple : (z k : Whole) (S : ℕ) → Near z (k ⊙ S) 0 → k.0 < k.1 → z.0 + S ≤ z.1
multiple z k S m h = let i : suc k.0 ≤ k.1 = h in omega (arith, mul-le-mul_right S i)

-- z is a multiple k of S, which is a unit of the result at least: the float r of z has its sign
rounded_sign : (r z k : Whole) (L Q H S : ℕ) → 0 < L → H + 2 ≤ Q → L ≤ S → Near z (k ⊙ S) 0 → Near (r ⊙ L ⊙ Q) (z ⊙ Q) (abs z + H * L) → SameAs (r.0 < r.1) (k.0 < k.1)
rounded_sign r z k L Q H S P q s m n = (λ h. down h (dec_lt k.0 k.1) (dec_lt k.1 k.0), λ h. up r z k m n h)
  where
    far : (z : Whole) (b : ℕ) → z.0 + S ≤ z.1 → z.0 + b ≡ z.1 → L ≤ b
    far z b h e = omega arith

    under : (z : Whole) → z.0 + S ≤ z.1 → z.0 ≤ z.1
    under z h = omega arith

    up : (r z k : Whole) → Near z (k ⊙ S) 0 → Near (r ⊙ L ⊙ Q) (z ⊙ Q) (abs z + H * L) → k.0 < k.1 → r.0 < r.1
    up r z k m n h =
        let i = multiple z k S m h in
        let e = abs_below z (under z i) in
        rounded_below r z (abs z) L Q H P q (far z (abs z) i e) e n

    turn : (x y : Whole) (E : ℕ) → Near x y E → Near (x.1, x.0) (y.1, y.0) E
    turn x y E h = omega arith

    clash : (a b : ℕ) → a < b → b < a → ⊥
    clash a b h k = omega arith

    level : (a b : ℕ) → (a < b → ⊥) → (b < a → ⊥) → a ≡ b
    level a b h k = elim (dec_lt a b) [ yes l ↦ absurd (h l) | no l ↦ elim (dec_lt b a) [ yes i ↦ absurd (k i) | no i ↦ omega arith ] ]

    same_sides : k.0 ≡ k.1 → z.0 ≡ z.1
    same_sides e = omega (arith, ap (λ (x : ℕ). x * S) e)

    nothing : (b : ℕ) → z.0 ≡ z.1 → z.0 + b ≡ z.1 → b ≡ 0
    nothing b e i = omega arith

    even : z.0 ≡ z.1 → z.0 ≤ z.1
    even e = omega arith

    down : r.0 < r.1 → Dec (k.0 < k.1) → Dec (k.1 < k.0) → k.0 < k.1
    down h (yes l) d = l
    down h (no l) (yes i) = absurd (clash r.0 r.1 h (up (r.1, r.0) (z.1, z.0) (k.1, k.0) (turn z (k ⊙ S) 0 m) (subst (λ (b : ℕ). Near ((r.1, r.0) ⊙ L ⊙ Q) ((z.1, z.0) ⊙ Q) (b + H * L)) (sym (abs_turned z)) (turn (r ⊙ L ⊙ Q) (z ⊙ Q) (abs z + H * L) n)) i))
    down h (no l) (no i) =
        let e = same_sides (level k.0 k.1 l i) in
        absurd (rounded_zero r z (abs z) L Q H P q (nothing (abs z) e (abs_below z (even e))) e n h)

product_most : (z : Whole) (L : ℕ) → Within z (600 * L * (600 * L)) → abs z ≤ 360000 * L * L
product_most z L w = let i = abs_le z (600 * L * (600 * L)) w in omega arith

half : (f : Format) (q : ℕ) (R : Room f q) → 2 ^ (prec f - 1) + 2 ≤ 2 ^ prec f
half f q R = omega (arith, twice (prec f) (prec_pos f), R.deep)

module _ (f : Format) (q : ℕ) (R : Room f q) where
  -- x and y are j and k times I units
  pub product_sign : (x y : Float) (j k : Whole) (I : ℕ) → Ok f x → Ok f y → Within (whole f x) (600 * 2 ^ low f) → Within (whole f y) (600 * 2 ^ low f) → 2 ^ low f ≤ I * I → Near (whole f x) (j ⊙ I) 0 → Near (whole f y) (k ⊙ I) 0
      → SameAs ((whole f (mul f x y)).0 < (whole f (mul f x y)).1) (Apart j k)
  product_sign x y j k I o u a b l m n =
      let L = 2 ^ low f in
      let X = whole f x in
      let Y = whole f y in
      let z = X ⊗ Y in
      let p = mul_rel f x y (abs z) o u (abs_within z) (product_fits f q R 360000 (abs z) (lit≤ tt) (product_most z L (within_mul X Y (600 * L) (600 * L) a b))) in
      through (rounded_sign (whole f (mul f x y)) z (j ⊗ k) L (2 ^ prec f) (2 ^ (prec f - 1)) (I * I) (pow_pos (low f)) (half f q R) l (near_same z ((j ⊙ I) ⊗ (k ⊙ I)) (j ⊗ k ⊙ (I * I)) 0 (same_times X (j ⊙ I) Y (k ⊙ I) m n) (out j k)) p.1)
      (product_apart j k, apart_product j k)
    where
      out : (j k : Whole) → Near ((j ⊙ I) ⊗ (k ⊙ I)) (j ⊗ k ⊙ (I * I)) 0
      out j k = omega arith

-- ---- the tests
or_is : (a b : Bool) → SameAs ((a || b) ≡ true) ((a ≡ true) ⊎ (b ≡ true))
or_is true b = (λ e. inl refl, λ h. refl)
or_is false b = (λ e. inr e, λ h. go h)
  where
    go : (false ≡ true) ⊎ (b ≡ true) → b ≡ true
    go (inl e) = absurd (is_not (sym e) tt)
    go (inr e) = e

and_is : (a b : Bool) → SameAs ((a && b) ≡ true) ((a ≡ true) × (b ≡ true))
and_is true b = (λ e. (refl, e), λ h. h.1)
and_is false b = (λ e. absurd (is_not (sym e) tt), λ h. h.0)

either : {P P' Q Q' : Type 0} → SameAs P P' → SameAs Q Q' → SameAs (P ⊎ Q) (P' ⊎ Q')
either f g = (λ h. elim h [ inl p ↦ inl (f.0 p) | inr q ↦ inr (g.0 q) ], λ h. elim h [ inl p ↦ inl (f.1 p) | inr q ↦ inr (g.1 q) ])

pair : {P P' Q Q' : Type 0} → SameAs P P' → SameAs Q Q' → SameAs (P × Q) (P' × Q')
pair f g = (λ h. (f.0 h.0, g.0 h.1), λ h. (f.1 h.0, g.1 h.1))

module _ (p q r s : Node) (P : At 8 p) (Q : At 8 q) (R : At 8 r) (S : At 8 s) (gp : GridPoint p) (gq : GridPoint q) (gr : GridPoint r) (gs : GridPoint s) where
  zero_below : (z : Whole) (t : Whole) → t ≡ (0, 0) → SameAs (z ⊏ t) (z.0 < z.1)
  zero_below z t e = rw e (λ h. omega arith, λ h. omega arith)

  pub parts_exactly : SameAs (parts p q r s ≡ true) (TwoSides p q r s)
  unfolding parts side floats.◌⊗◌ ◌≺◌
  parts_exactly =
      let x = cross p q r in
      let y = cross p q s in
      let a = side_ok p q r P Q R in
      let b = side_ok p q s P Q S in
      let j = sides.parts p q r P Q R gp gq gr in
      let k = sides.parts p q s P Q S gp gq gs in
      through
      (through (through (decided binary64 (mul binary64 x y) 0·0 (sides_ok p q r s P Q R S) zero_ok) (zero_below (whole binary64 (mul binary64 x y)) (whole binary64 0·0) zero_is))
      (product_sign binary64 (2 ^ 1021) room64 x y j k (2 ^ 1054) a.0 b.0 a.1 b.1 (lit≤ tt) (float_parts p q r P Q R gp gq gr) (float_parts p q s P Q S gp gq gs)))
      (back (either (pair (exact_above p q r P Q R gp gq gr) (exact_below p q s P Q S gp gq gs)) (pair (exact_below p q r P Q R gp gq gr) (exact_above p q s P Q S gp gq gs))))

-- each segment parts the ends of the other
pub crossing_exactly : (p q r s : Node) → At 8 p → At 8 q → At 8 r → At 8 s → GridPoint p → GridPoint q → GridPoint r → GridPoint s
    → SameAs (segments_cross p q r s ≡ true) (TwoSides p q r s × TwoSides r s p q)
unfolding segments_cross
crossing_exactly p q r s P Q R S gp gq gr gs = through (and_is (parts p q r s) (parts r s p q)) (pair (parts_exactly p q r s P Q R S gp gq gr gs) (parts_exactly r s p q R S P Q gr gs gp gq))

pub inside_exactly : (a b c p : Node) → At 8 a → At 8 b → At 8 c → At 8 p → GridPoint a → GridPoint b → GridPoint c → GridPoint p → SameAs (point_strictly_inside a b c p ≡ true) (StrictlyIn a b c p)
unfolding point_strictly_inside positive negative tiny_cross
inside_exactly a b c p A B C P ga gb gc gp =
    let d0 = cross a b p in
    let d1 = cross b c p in
    let d2 = cross c a p in
    let l0 = 1e-12 ≺ d0 in
    let l1 = 1e-12 ≺ d1 in
    let l2 = 1e-12 ≺ d2 in
    let r0 = d0 ≺ neg 1e-12 in
    let r1 = d1 ≺ neg 1e-12 in
    let r2 = d2 ≺ neg 1e-12 in
    through (or_is (l0 && l1 && l2) (r0 && r1 && r2))
    (either
    (through (and_is (l0 && l1) l2) (pair (through (and_is l0 l1) (pair (left_exactly a b p A B P ga gb gp) (left_exactly b c p B C P gb gc gp))) (left_exactly c a p C A P gc ga gp)))
    (through (and_is (r0 && r1) r2) (pair (through (and_is r0 r1) (pair (right_exactly a b p A B P ga gb gp) (right_exactly b c p B C P gb gc gp))) (right_exactly c a p C A P gc ga gp))))
