-- Signs of whole numbers, as differences of naturals (exact/specs/Near.antt),
use Rattle.std.specs.Prelude.{◌≡◌, ◌+◌, ◌-◌, ◌*◌, ◌<◌, ◌≤◌}
use Rattle.laws.specs.Kit.{ap, ℕ, arith, dec_le, mul-le-mul_right, mul-lt-mul_of_pos_right}
use Rattle.std.proofs.Common.{add-sub_of_le}
use Rattle.exact.specs.Near.{Whole, Near, ◌⊕◌, ◌⊖◌, ◌⊗◌}
use Rattle.exact.proofs.Near.{same_scale, same_times}
use Rattle.accept.specs.Signs.{Low, Same, Up, along, lace, minus}

-- ---- products
pub up_up : (x y : Whole) → Up x → Up y → Up (x ⊗ y)
up_up x y h k =
    let d = y.0 - y.1 in
    let e : y.1 + d ≡ y.0 = add-sub_of_le (omega arith) in
    let i : x.1 * d < x.0 * d = mul-lt-mul_of_pos_right h (omega arith) in
    omega (arith, ap (λ (z : ℕ). x.0 * z) e, ap (λ (z : ℕ). x.1 * z) e)

pub low_low : (x y : Whole) → Low x → Low y → Low (minus (x ⊗ y))
low_low x y h k =
    let d = y.1 - y.0 in
    let e : y.0 + d ≡ y.1 = add-sub_of_le k in
    let i : x.0 * d ≤ x.1 * d = mul-le-mul_right d h in
    omega (arith, ap (λ (z : ℕ). x.0 * z) e, ap (λ (z : ℕ). x.1 * z) e)

pub low_up : (x y : Whole) → Low x → Up y → Low (x ⊗ y)
low_up x y h k = let r = low_low x (minus y) h (omega arith) in omega arith

pub down_up : (x y : Whole) → Up (minus x) → Up y → Up (minus (x ⊗ y))
down_up x y h k = let r = up_up (minus x) y h k in omega arith

-- a number that is not above zero and whose product with one above is not below is zero
pub null : (x y : Whole) → Low x → Up y → Low (minus (x ⊗ y)) → Same x (0, 0)
null x y h k l = elim (dec_le x.1 x.0) [ yes m ↦ omega arith | no m ↦ absurd (let r = down_up x y (omega arith) k in omega arith) ]

-- a factor of a product above zero
pub factor : (x y : Whole) → Up y → Up (x ⊗ y) → Up x
factor x y k l = elim (dec_le x.0 x.1) [ yes m ↦ absurd (let r = low_up x y m k in omega arith) | no m ↦ omega arith ]

pub nought : (x z : Whole) → Same x (0, 0) → Same (x ⊗ z) (0, 0)
nought x z h = let r = same_scale x (0, 0) z h in omega arith

pub square : (x : Whole) → Low (minus (x ⊗ x))
square x = elim (dec_le x.0 x.1) [ yes m ↦ low_low x x m m | no m ↦ let r = up_up x x (omega arith) (omega arith) in omega arith ]

pub expand : (u v u' v' : Whole) → Same ((u ⊖ v) ⊗ (u' ⊖ v')) (u ⊗ u' ⊖ u ⊗ v' ⊖ v ⊗ u' ⊕ v ⊗ v')
expand u v u' v' = omega arith

-- the cross products around a triangle add up to that of two of its sides
pub around : (xa ya xb yb xc yc : Whole) → Same (lace xa ya xb yb ⊕ lace xb yb xc yc ⊕ lace xc yc xa ya) (lace (xb ⊖ xa) (yb ⊖ ya) (xc ⊖ xa) (yc ⊖ ya))
around xa ya xb yb xc yc =
    joined (xa ⊗ yb) (xb ⊗ ya) (xb ⊗ yc) (xc ⊗ yb) (xc ⊗ ya) (xa ⊗ yc) (xa ⊗ ya) ((xb ⊖ xa) ⊗ (yc ⊖ ya)) ((xc ⊖ xa) ⊗ (yb ⊖ ya)) (expand xb xa yc ya) (expand xc xa yb ya)
  where
    joined : (ab ba bc cb ca ac aa u v : Whole) → Same u (bc ⊖ ba ⊖ ac ⊕ aa) → Same v (cb ⊖ ca ⊖ ab ⊕ aa) → Same (ab ⊖ ba ⊕ (bc ⊖ cb) ⊕ (ca ⊖ ac)) (u ⊖ v)
    joined ab ba bc cb ca ac aa u v h k = omega arith

-- it goes by the vectors alone
pub lace_same : (x y x' y' u v u' v' : Whole) → Same x u → Same y v → Same x' u' → Same y' v' → Same (lace x y x' y') (lace u v u' v')
lace_same x y x' y' u v u' v' a b c d = joined (x ⊗ y') (x' ⊗ y) (u ⊗ v') (u' ⊗ v) (same_times x u y' v' a d) (same_times x' u' y v c b)
  where
    joined : (p q p' q' : Whole) → Same p p' → Same q q' → Same (p ⊖ q) (p' ⊖ q')
    joined p q p' q' h k = omega arith

-- the cross product of vectors k times as long is above zero with that of the vectors
pub lace_longer : (x y x' y' k : Whole) → Up k → Up (lace x y x' y') → Up (lace (x ⊗ k) (y ⊗ k) (x' ⊗ k) (y' ⊗ k))
lace_longer x y x' y' k h l =
    joined (lace x y x' y' ⊗ (k ⊗ k)) (x ⊗ y' ⊗ (k ⊗ k)) (x' ⊗ y ⊗ (k ⊗ k)) ((x ⊗ k) ⊗ (y' ⊗ k)) ((x' ⊗ k) ⊗ (y ⊗ k))
    (up_up (lace x y x' y') (k ⊗ k) l (up_up k k h h)) (over (x ⊗ y') (x' ⊗ y) (k ⊗ k)) (both x y' k) (both x' y k)
  where
    over : (u v w : Whole) → Same ((u ⊖ v) ⊗ w) (u ⊗ w ⊖ v ⊗ w)
    over u v w = omega arith

    both : (u v k : Whole) → Same ((u ⊗ k) ⊗ (v ⊗ k)) (u ⊗ v ⊗ (k ⊗ k))
    both u v k = omega arith

    joined : (p q r q' r' : Whole) → Up p → Same p (q ⊖ r) → Same q' q → Same r' r → Up (q' ⊖ r')
    joined p q r q' r' h e f g = omega arith

-- products of three
swap : (x y z : Whole) → Same (x ⊗ y ⊗ z) (x ⊗ z ⊗ y)
swap x y z = omega arith

pull : (x y x' y' z : Whole) → Same (lace x y x' y' ⊗ z) (x ⊗ y' ⊗ z ⊖ x' ⊗ y ⊗ z)
pull x y x' y' z = omega arith

-- three vectors, each weighed by the cross product of the other two, add up to nothing
pub weighed : (xa ya xb yb xc yc : Whole) → Same (lace xa ya xb yb ⊗ yc ⊕ lace xb yb xc yc ⊗ ya ⊕ lace xc yc xa ya ⊗ yb) (0, 0)
weighed xa ya xb yb xc yc =
    joined (lace xa ya xb yb ⊗ yc) (lace xb yb xc yc ⊗ ya) (lace xc yc xa ya ⊗ yb) (xa ⊗ yb ⊗ yc) (xb ⊗ ya ⊗ yc) (xb ⊗ yc ⊗ ya) (xc ⊗ yb ⊗ ya) (xc ⊗ ya ⊗ yb) (xa ⊗ yc ⊗ yb)
    (pull xa ya xb yb yc) (pull xb yb xc yc ya) (pull xc yc xa ya yb) (swap xa yb yc) (swap xb ya yc) (swap xc yb ya)
  where
    joined : (p q r a b b' c c' a' : Whole) → Same p (a ⊖ b) → Same q (b' ⊖ c) → Same r (c' ⊖ a') → Same a a' → Same b b' → Same c c' → Same (p ⊕ q ⊕ r) (0, 0)
    joined p q r a b b' c c' a' h k l e f g = omega arith

-- of two vectors on one line, the first not upward and the second upward, the dot product is not above zero
pub straddling : (xa ya xb yb : Whole) → Low ya → Up yb → Same (lace xa ya xb yb) (0, 0) → Low (along xa ya xb yb)
straddling xa ya xb yb h k e = elim (dec_le (along xa ya xb yb).0 (along xa ya xb yb).1) [
  | yes m ↦ m
  | no m ↦ absurd (clash (yb ⊗ along xa ya xb yb) (ya ⊗ (xb ⊗ xb ⊕ yb ⊗ yb)) (lace xa ya xb yb ⊗ xb) (up_up yb (along xa ya xb yb) k (omega arith)) (under ya (xb ⊗ xb ⊕ yb ⊗ yb) h (both (xb ⊗ xb) (yb ⊗ yb) (square xb) (square yb))) (nought (lace xa ya xb yb) xb e) turned)
]
  where
    spread : (z p q : Whole) → Same (z ⊗ (p ⊕ q)) (p ⊗ z ⊕ q ⊗ z)
    spread z p q = omega arith

    first_out : (x y z : Whole) → Same (x ⊗ y ⊗ z) (y ⊗ z ⊗ x)
    first_out x y z = omega arith

    joined : (p q r a b c d e f : Whole) → Same p (a ⊕ b) → Same q (c ⊕ d) → Same r (e ⊖ f) → Same a e → Same b d → Same c f → Same p (q ⊕ r)
    joined p q r a b c d e f h k l m n o = omega arith

    turned : Same (yb ⊗ along xa ya xb yb) (ya ⊗ (xb ⊗ xb ⊕ yb ⊗ yb) ⊕ lace xa ya xb yb ⊗ xb)
    turned =
        joined (yb ⊗ along xa ya xb yb) (ya ⊗ (xb ⊗ xb ⊕ yb ⊗ yb)) (lace xa ya xb yb ⊗ xb) (xa ⊗ xb ⊗ yb) (ya ⊗ yb ⊗ yb) (xb ⊗ xb ⊗ ya) (yb ⊗ yb ⊗ ya) (xa ⊗ yb ⊗ xb) (xb ⊗ ya ⊗ xb)
        (spread yb (xa ⊗ xb) (ya ⊗ yb)) (spread ya (xb ⊗ xb) (yb ⊗ yb)) (pull xa ya xb yb xb) (swap xa xb yb) (first_out ya yb yb) (swap xb xb ya)

    both : (u v : Whole) → Low (minus u) → Low (minus v) → Low (minus (u ⊕ v))
    both u v h k = omega arith

    under : (x y : Whole) → Low x → Low (minus y) → Low (x ⊗ y)
    under x y h k = let r = low_low x (minus y) h k in omega arith

    clash : (u v w : Whole) → Up u → Low v → Same w (0, 0) → Same u (v ⊕ w) → ⊥
    clash u v w h k e f = omega arith
