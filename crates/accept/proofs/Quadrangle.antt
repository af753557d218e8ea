-- A quad a b c d seen from a place, by the cross products p = a x b, q = b x c, r = c x d, s = d x a of its sides
use Rattle.laws.specs.Kit.{arith, dec_le}
use Rattle.exact.specs.Near.{Whole, ◌⊕◌, ◌⊖◌, ◌⊗◌}
use Rattle.exact.proofs.Near.{same_scale}
use Rattle.accept.specs.Signs.{Up, Low, Same, minus, lace, along}
use Rattle.accept.proofs.Signs.{up_up, low_low, low_up, down_up, null, nought, square, factor, expand, weighed}
use Rattle.accept.specs.Triangle.{Off}
use Rattle.accept.specs.Quadrangle.{Lean, Nowhere, long, over}

-- ---- the relation of the six cross products
-- a product of four, its factors exchanged
second_fourth : (x y z w : Whole) → Same ((x ⊗ y) ⊗ (z ⊗ w)) ((x ⊗ w) ⊗ (z ⊗ y))
second_fourth x y z w = omega arith

first_third : (x y z w : Whole) → Same ((x ⊗ y) ⊗ (z ⊗ w)) ((z ⊗ y) ⊗ (x ⊗ w))
first_third x y z w = omega arith

pub plucker : (xa ya xb yb xc yc xd yd : Whole) → Same (lace xa ya xb yb ⊗ lace xc yc xd yd) (lace xa ya xc yc ⊗ lace xb yb xd yd ⊕ lace xd yd xa ya ⊗ lace xb yb xc yc)
plucker xa ya xb yb xc yc xd yd =
    joined (lace xa ya xb yb ⊗ lace xc yc xd yd) (lace xa ya xc yc ⊗ lace xb yb xd yd) (lace xd yd xa ya ⊗ lace xb yb xc yc)
    ((xa ⊗ yb) ⊗ (xc ⊗ yd)) ((xa ⊗ yb) ⊗ (xd ⊗ yc)) ((xb ⊗ ya) ⊗ (xc ⊗ yd)) ((xb ⊗ ya) ⊗ (xd ⊗ yc))
    ((xa ⊗ yc) ⊗ (xb ⊗ yd)) ((xa ⊗ yc) ⊗ (xd ⊗ yb)) ((xc ⊗ ya) ⊗ (xb ⊗ yd)) ((xc ⊗ ya) ⊗ (xd ⊗ yb))
    ((xd ⊗ ya) ⊗ (xb ⊗ yc)) ((xd ⊗ ya) ⊗ (xc ⊗ yb)) ((xa ⊗ yd) ⊗ (xb ⊗ yc)) ((xa ⊗ yd) ⊗ (xc ⊗ yb))
    (expand (xa ⊗ yb) (xb ⊗ ya) (xc ⊗ yd) (xd ⊗ yc)) (expand (xa ⊗ yc) (xc ⊗ ya) (xb ⊗ yd) (xd ⊗ yb)) (expand (xd ⊗ ya) (xa ⊗ yd) (xb ⊗ yc) (xc ⊗ yb))
    (second_fourth xa yb xc yd) (second_fourth xa yb xd yc) (first_third xb ya xc yd) (first_third xb ya xd yc) (second_fourth xa yc xb yd) (first_third xc ya xd yb)
  where
    joined : (u v w a b c d e f g h i j k l : Whole) → Same u (a ⊖ b ⊖ c ⊕ d) → Same v (e ⊖ f ⊖ g ⊕ h) → Same w (i ⊖ j ⊖ k ⊕ l)
        → Same a l → Same b f → Same c g → Same d i → Same e k → Same h j → Same u (v ⊕ w)
    joined u v w a b c d e f g h i j k l eu ev ew al bf cg di ek hj = omega arith

-- ---- a place in one half of a convex quad is on the left of the sides of the other half
sum_up : (u v w : Whole) → Up u → Up v → Same w (u ⊕ v) → Up w
sum_up u v w h k e = omega arith

module _ (p q r s m n : Whole) (pl : Same (p ⊗ r) (m ⊗ n ⊕ s ⊗ q)) where
  third : Same (r ⊗ (p ⊕ q ⊕ minus m)) (q ⊗ (m ⊕ r ⊕ s) ⊕ minus m ⊗ (q ⊕ r ⊕ minus n))
  third = omega arith

  fourth : Same (s ⊗ (p ⊕ q ⊕ minus m)) (p ⊗ (m ⊕ r ⊕ s) ⊕ minus m ⊗ (p ⊕ n ⊕ s))
  fourth = omega arith

  pub first_half : Up (p ⊕ q ⊕ minus m) → Up (m ⊕ r ⊕ s) → Up (p ⊕ n ⊕ s) → Up (q ⊕ r ⊕ minus n) → Up p → Up q → Up (minus m) → Up r × Up s
  first_half abc acd abd bcd hp hq hm = (
    factor r (p ⊕ q ⊕ minus m) abc (sum_up (q ⊗ (m ⊕ r ⊕ s)) (minus m ⊗ (q ⊕ r ⊕ minus n)) (r ⊗ (p ⊕ q ⊕ minus m)) (up_up q (m ⊕ r ⊕ s) hq acd) (up_up (minus m) (q ⊕ r ⊕ minus n) hm bcd) third),
    factor s (p ⊕ q ⊕ minus m) abc (sum_up (p ⊗ (m ⊕ r ⊕ s)) (minus m ⊗ (p ⊕ n ⊕ s)) (s ⊗ (p ⊕ q ⊕ minus m)) (up_up p (m ⊕ r ⊕ s) hp acd) (up_up (minus m) (p ⊕ n ⊕ s) hm abd) fourth),
  )

-- ---- a place on the line through a and c: p c and q a add up to nothing
-- the other three vectors' identity, by x
across : (xa ya xb yb xc yc : Whole) → Same (lace xa ya xb yb ⊗ xc ⊕ lace xb yb xc yc ⊗ xa ⊕ lace xc yc xa ya ⊗ xb) (0, 0)
across xa ya xb yb xc yc =
    turned (lace ya xa yb xb) (lace yb xb yc xc) (lace yc xc ya xa) (lace xa ya xb yb) (lace xb yb xc yc) (lace xc yc xa ya) xa xb xc
    (mirror xa ya xb yb) (mirror xb yb xc yc) (mirror xc yc xa ya) (weighed ya xa yb xb yc xc)
  where
    mirror : (x y x' y' : Whole) → Same (lace y x y' x') (minus (lace x y x' y'))
    mirror x y x' y' = omega arith

    scaled : (u v z : Whole) → Same u (minus v) → Same (u ⊗ z) (minus (v ⊗ z))
    scaled u v z h = let r = same_scale u (minus v) z h in omega arith

    linear : (u v w u' v' w' : Whole) → Same u (minus u') → Same v (minus v') → Same w (minus w') → Same (u ⊕ v ⊕ w) (0, 0) → Same (u' ⊕ v' ⊕ w') (0, 0)
    linear u v w u' v' w' h k l e = omega arith

    turned : (u v w u' v' w' a b c : Whole) → Same u (minus u') → Same v (minus v') → Same w (minus w') → Same (u ⊗ c ⊕ v ⊗ a ⊕ w ⊗ b) (0, 0) → Same (u' ⊗ c ⊕ v' ⊗ a ⊕ w' ⊗ b) (0, 0)
    turned u v w u' v' w' a b c h k l e = linear (u ⊗ c) (v ⊗ a) (w ⊗ b) (u' ⊗ c) (v' ⊗ a) (w' ⊗ b) (scaled u u' c h) (scaled v v' a k) (scaled w w' b l) e

pub leans : (xa ya xb yb xc yc : Whole) → Same (lace xc yc xa ya) (0, 0) → Lean (lace xa ya xb yb) (lace xb yb xc yc) xa ya xc yc
leans xa ya xb yb xc yc e =
    record {
      by_x = less (lace xa ya xb yb ⊗ xc) (lace xb yb xc yc ⊗ xa) (lace xc yc xa ya ⊗ xb) (nought (lace xc yc xa ya) xb e) (across xa ya xb yb xc yc);
      by_y = less (lace xa ya xb yb ⊗ yc) (lace xb yb xc yc ⊗ ya) (lace xc yc xa ya ⊗ yb) (nought (lace xc yc xa ya) yb e) (weighed xa ya xb yb xc yc);
    }
  where
    less : (u v w : Whole) → Same w (0, 0) → Same (u ⊕ v ⊕ w) (0, 0) → Same (u ⊕ v) (0, 0)
    less u v w h e = omega arith

-- from the other end
pub lean_back : (p q xa ya xc yc : Whole) → Lean p q xa ya xc yc → Lean q p xc yc xa ya
lean_back p q xa ya xc yc l = record { by_x = swap (p ⊗ xc) (q ⊗ xa) l.by_x; by_y = swap (p ⊗ yc) (q ⊗ ya) l.by_y }
  where
    swap : (u v : Whole) → Same (u ⊕ v) (0, 0) → Same (v ⊕ u) (0, 0)
    swap u v h = omega arith

long_least : (x y : Whole) → Low (minus (long x y))
long_least x y = sum (x ⊗ x) (y ⊗ y) (square x) (square y)
  where
    sum : (u v : Whole) → Low (minus u) → Low (minus v) → Low (minus (u ⊕ v))
    sum u v h k = omega arith

out : (p q x y z : Whole) → Same ((p ⊗ x ⊕ q ⊗ y) ⊗ z) (p ⊗ (x ⊗ z) ⊕ q ⊗ (y ⊗ z))
out p q x y z = joined ((p ⊗ x ⊕ q ⊗ y) ⊗ z) (p ⊗ x ⊗ z) (q ⊗ y ⊗ z) (p ⊗ (x ⊗ z)) (q ⊗ (y ⊗ z)) (apart (p ⊗ x) (q ⊗ y) z) (regroup p x z) (regroup q y z)
  where
    apart : (u v z : Whole) → Same ((u ⊕ v) ⊗ z) (u ⊗ z ⊕ v ⊗ z)
    apart u v z = omega arith

    regroup : (u v z : Whole) → Same (u ⊗ v ⊗ z) (u ⊗ (v ⊗ z))
    regroup u v z = omega arith

    joined : (u v w v' w' : Whole) → Same u (v ⊕ w) → Same v v' → Same w w' → Same u (v' ⊕ w')
    joined u v w v' w' h k l = omega arith

-- times c
lean_dot : (p q xa ya xc yc : Whole) → Lean p q xa ya xc yc → Same (p ⊗ long xc yc ⊕ q ⊗ along xa ya xc yc) (0, 0)
lean_dot p q xa ya xc yc l =
    linear ((p ⊗ xc ⊕ q ⊗ xa) ⊗ xc) ((p ⊗ yc ⊕ q ⊗ ya) ⊗ yc) (p ⊗ (xc ⊗ xc)) (q ⊗ (xa ⊗ xc)) (p ⊗ (yc ⊗ yc)) (q ⊗ (ya ⊗ yc)) (p ⊗ long xc yc) (q ⊗ along xa ya xc yc)
    (nought (p ⊗ xc ⊕ q ⊗ xa) xc l.by_x) (nought (p ⊗ yc ⊕ q ⊗ ya) yc l.by_y) (out p q xc xa xc) (out p q yc ya yc) (over p (xc ⊗ xc) (yc ⊗ yc)) (over q (xa ⊗ xc) (ya ⊗ yc))
  where
    linear : (u v a b c d e f : Whole) → Same u (0, 0) → Same v (0, 0) → Same u (a ⊕ b) → Same v (c ⊕ d) → Same e (a ⊕ c) → Same f (b ⊕ d) → Same (e ⊕ f) (0, 0)
    linear u v a b c d e f h k l m n o = omega arith

-- where both sides at b have the place on their left, it lies between a and c
pub between : (p q xa ya xc yc : Whole) → Lean p q xa ya xc yc → Up p → Up q → Low (along xa ya xc yc)
between p q xa ya xc yc l hp hq = elim (dec_le (along xa ya xc yc).0 (along xa ya xc yc).1) [
  | yes h ↦ h
  | no h ↦ absurd (clash (p ⊗ long xc yc) (q ⊗ along xa ya xc yc) (not_below p (long xc yc) hp (long_least xc yc)) (up_up q (along xa ya xc yc) hq (strict (along xa ya xc yc) h)) (lean_dot p q xa ya xc yc l))
]
  where
    strict : (u : Whole) → (Low u → ⊥) → Up u
    strict u h = omega arith

    not_below : (x y : Whole) → Up x → Low (minus y) → Low (minus (x ⊗ y))
    not_below x y h k = let r = low_up (minus y) x k h in omega arith

    clash : (u v : Whole) → Low (minus u) → Up v → Same (u ⊕ v) (0, 0) → ⊥
    clash u v h k e = omega arith

nowhere : (x y : Whole) → Low (long x y) → Nowhere x y
nowhere x y h = record { at_x = root x (part (x ⊗ x) (y ⊗ y) (square y) h); at_y = root y (part (y ⊗ y) (x ⊗ x) (square x) (swap (x ⊗ x) (y ⊗ y) h)) }
  where
    part : (u v : Whole) → Low (minus v) → Low (u ⊕ v) → Low u
    part u v k h = omega arith

    swap : (u v : Whole) → Low (u ⊕ v) → Low (v ⊕ u)
    swap u v h = omega arith

    root : (x : Whole) → Low (x ⊗ x) → Same x (0, 0)
    root x h = elim (dec_le x.0 x.1) [
      | yes a ↦ elim (dec_le x.1 x.0) [
        | yes b ↦ omega arith
        | no b ↦ absurd (let u = down_up x (minus x) (omega arith) (omega arith) in omega arith)
      ]
      | no a ↦ absurd (let u = up_up x x (omega arith) (omega arith) in omega arith)
    ]

-- it is on the way to any other, and from it
pub not_at_first : (x y x' y' : Whole) → Off x y x' y' → Nowhere x y → ⊥
not_at_first x y x' y' off z =
    strict (x ⊗ x') (y ⊗ y') (nought x x' z.at_x) (nought y y' z.at_y) (off (flat (x ⊗ y') (y ⊗ x') (x' ⊗ y) (nought x y' z.at_x) (nought y x' z.at_y) (turned y x')))
  where
    turned : (u v : Whole) → Same (v ⊗ u) (u ⊗ v)
    turned u v = omega arith

    flat : (u v w : Whole) → Same u (0, 0) → Same v (0, 0) → Same w v → Same (u ⊖ w) (0, 0)
    flat u v w h k e = omega arith

    strict : (u v : Whole) → Same u (0, 0) → Same v (0, 0) → Up (u ⊕ v) → ⊥
    strict u v h k l = omega arith

pub off_back : (x y x' y' : Whole) → Off x y x' y' → Off x' y' x y
off_back x y x' y' off e = turned x y x' y' (off (flat x y x' y' e))
  where
    flat : (x y x' y' : Whole) → Same (lace x' y' x y) (0, 0) → Same (lace x y x' y') (0, 0)
    flat x y x' y' h = omega arith

    turned : (x y x' y' : Whole) → Up (along x y x' y') → Up (along x' y' x y)
    turned x y x' y' h = omega arith

-- a place between a and c, and at neither, is on the left of both sides that meet on that side of a c
-- where the turn is to the left
pub strictly : (p q xa ya xc yc : Whole) → Lean p q xa ya xc yc → Up (p ⊕ q) → Low (along xa ya xc yc) → (Nowhere xa ya → ⊥) → (Nowhere xc yc → ⊥) → Up p × Up q
strictly p q xa ya xc yc l d low a c = (
  first p q xa ya xc yc (lean_back p q xa ya xc yc l) d (turned xa ya xc yc low) a,
  first q p xc yc xa ya l (sum p q d) low c,
)
  where
    turned : (x y x' y' : Whole) → Low (along x y x' y') → Low (along x' y' x y)
    turned x y x' y' h = omega arith

    sum : (u v : Whole) → Up (u ⊕ v) → Up (v ⊕ u)
    sum u v h = omega arith

    low_long : (u v dot n : Whole) → Up (u ⊕ v) → Low dot → Low (minus n) → Same (v ⊗ n ⊕ u ⊗ dot) (0, 0) → Low u → Low n
    low_long u v dot n d h k e l =
        let w = low_low u dot l h in
        let z = null (minus n) v k (omega arith) (omega arith) in
        omega arith

    first : (u v x y x' y' : Whole) → Lean v u x' y' x y → Up (u ⊕ v) → Low (along x' y' x y) → (Nowhere x y → ⊥) → Up u
    first u v x y x' y' l d low a = elim (dec_le u.0 u.1) [
      | yes h ↦ absurd (a (nowhere x y (low_long u v (along x' y' x y) (long x y) d low (long_least x y) (lean_dot v u x' y' x y l) h)))
      | no h ↦ omega arith
    ]

-- ---- and at whose sides' left it lies: the heights
-- a and c are not both above it
pub not_both_above : (p q xa ya xc yc : Whole) → Lean p q xa ya xc yc → Up p → Up q → Up ya → Up yc → ⊥
not_both_above p q xa ya xc yc l hp hq ha hc = let u = up_up p yc hp hc in let v = up_up q ya hq ha in let w = l.by_y in omega arith

-- where neither is, they are at its height
pub at_height : (p q xa ya xc yc : Whole) → Lean p q xa ya xc yc → Up p → Up q → Low ya → Low yc → Same ya (0, 0)
at_height p q xa ya xc yc l hp hq ha hc = let u = low_up yc p hc hp in let w = l.by_y in null ya q ha hq (let v = low_up ya q ha hq in omega arith)

-- where a is at the height of the place, just one of b and d is above it
pub one_above : (xa ya xb yb xd yd : Whole) → Same ya (0, 0) → Up (lace xa ya xb yb) → Up (lace xd yd xa ya) → (Up yb → Low yd) × (Low yb → Up yd)
one_above xa ya xb yb xd yd e hp hs = (
  λ h. elim (dec_le yd.0 yd.1) [
    | yes l ↦ l
    | no l ↦ absurd (clash (xa ⊗ yd) (up_up xa yd (factor xa yb h ab) (strict yd l)) ad)
  ],
  λ h. elim (dec_le yd.0 yd.1) [
    | yes l ↦ absurd (clash' (xa ⊗ yd) (low_low xa yd (left_of h) l) ad)
    | no l ↦ strict yd l
  ],
)
  where
    strict : (u : Whole) → (Low u → ⊥) → Up u
    strict u h = omega arith

    clash : (u : Whole) → Up u → Up (minus u) → ⊥
    clash u h k = omega arith

    clash' : (u : Whole) → Low (minus u) → Up (minus u) → ⊥
    clash' u h k = omega arith

    first : (u v w : Whole) → Up (u ⊖ v) → Same w (0, 0) → Same v w → Up u
    first u v w h e f = omega arith

    second : (u v w : Whole) → Up (v ⊖ u) → Same w (0, 0) → Same v w → Up (minus u)
    second u v w h e f = omega arith

    turned : (u v : Whole) → Same (v ⊗ u) (u ⊗ v)
    turned u v = omega arith

    ab : Up (xa ⊗ yb)
    ab = first (xa ⊗ yb) (xb ⊗ ya) (ya ⊗ xb) hp (nought ya xb e) (turned ya xb)

    ad : Up (minus (xa ⊗ yd))
    ad = second (xa ⊗ yd) (xd ⊗ ya) (ya ⊗ xd) hs (nought ya xd e) (turned ya xd)

    left_of : Low yb → Low xa
    left_of h = elim (dec_le xa.0 xa.1) [
      | yes l ↦ l
      | no l ↦ absurd (strictly_not (xa ⊗ yb) (yb ⊗ xa) (turned yb xa) (low_up yb xa h (strict xa l)) ab)
    ]
      where
        strictly_not : (u v : Whole) → Same u v → Low v → Up u → ⊥
        strictly_not u v e h k = omega arith
