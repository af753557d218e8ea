-- From the test of a trial to its four corners: the area,
use Rattle.std.specs.Prelude.{◌≡◌, ◌&&◌, ◌||◌, ◌+◌, ◌*◌, ◌^◌, ◌<◌, ◌≤◌, ◌∷◌}
use Rattle.laws.specs.Kit.{refl, sym, Bool, true, false, not, cond, ℕ, arith, T, not-true, [], map, Float, binary64, fin, inf, of_bits, fits, lt, neg}
use Rattle.definition.specs.Floats.{◌⊘◌, ◌≺◌, ◌≼◌, f64, finite, greater, 0·0, 1·0}
use Rattle.definition.specs.Lists.{any}
use Rattle.definition.specs.Numbers.{Quality, tiny_cross}
use Rattle.definition.specs.Plane.{Node, twice_area}
use Rattle.definition.specs.Metrics.{Metrics, absent, measured, Corner, corner_of, corners, not_convex, angle_of, clamp, cosine, largest_cosine, min_scaled_jacobian, quad_metrics, passes}
use Rattle.definition.specs.Exact.{TurnsLeft, CosineAtMost}
use Rattle.definition.specs.Account.{All}
use Rattle.laws.specs.Bools.{both, or_none}
use Rattle.exact.specs.Near.{Whole}
use Rattle.exact.specs.Parts.{billion}
use Rattle.exact.specs.Values.{whole, Ok}
use Rattle.exact.specs.Order.{◌⊏◌, ◌⊑◌}
use Rattle.exact.proofs.Order.{lt_whole, whole_le, not_lt, is_not}
use Rattle.exact.specs.Points.{At}
use Rattle.exact.proofs.Quads.{turns_left, measured_corner}
use Rattle.exact.specs.Passing.{BelowOne, CosineNear, Passed}

-- ---- the limit
pub one_ok : Ok binary64 1·0
unfolding 1·0 f64 of_bits fits
one_ok = tt

pub one_is : whole binary64 1·0 ≡ (2 ^ 1074, 0)
unfolding 1·0 f64 of_bits whole
one_is = refl

minus_one_ok : Ok binary64 (neg 1·0)
unfolding 1·0 f64 of_bits fits neg
minus_one_ok = tt

minus_one_is : whole binary64 (neg 1·0) ≡ (0, 2 ^ 1074)
unfolding 1·0 f64 of_bits whole neg
minus_one_is = refl

-- ---- clamped
clamp_cases : (c t : Float) → Ok binary64 c → BelowOne t → Ok binary64 (clamp c) × (whole binary64 (clamp c) ⊑ whole binary64 t → whole binary64 c ⊑ whole binary64 t)
unfolding clamp ◌≺◌
clamp_cases c t o b = go (lt c (neg 1·0)) (lt_whole binary64 c (neg 1·0) o minus_one_ok) (lt 1·0 c)
  where
    low : (c t m : Whole) (L : ℕ) → m ≡ (0, L) → c ⊏ m → t.1 ≡ 0 → c ⊑ t
    low c t m L e h z = go' (rw e at h)
      where
        go' : c ⊏ (0, L) → c ⊑ t
        go' h = omega arith

    high : (t m : Whole) (L : ℕ) → m ≡ (L, 0) → m ⊑ t → t.1 ≡ 0 → t.0 < L → ⊥
    high t m L e h z l = go' (rw e at h)
      where
        go' : (L, 0) ⊑ t → ⊥
        go' h = omega arith

    go : (l : Bool) → (T l → whole binary64 c ⊏ whole binary64 (neg 1·0)) → (g : Bool) → Ok binary64 (cond l (neg 1·0) (cond g 1·0 c)) × (whole binary64 (cond l (neg 1·0) (cond g 1·0 c)) ⊑ whole binary64 t → whole binary64 c ⊑ whole binary64 t)
    go true h g = (minus_one_ok, λ _. low (whole binary64 c) (whole binary64 t) (whole binary64 (neg 1·0)) (2 ^ 1074) minus_one_is (h tt) b.1)
    go false h true = (one_ok, λ k. absurd (high (whole binary64 t) (whole binary64 1·0) (2 ^ 1074) one_is k b.1 b.2))
    go false h false = (o, λ k. k)

-- ---- the largest
up_trans : (x y z : Whole) → x ⊑ y → y ⊑ z → x ⊑ z
up_trans x y z h k = omega arith

up_same : (x : Whole) → x ⊑ x
up_same x = omega arith

greater_ok : (x y : Float) → Ok binary64 x → Ok binary64 y → Ok binary64 (greater x y) × (whole binary64 x ⊑ whole binary64 (greater x y)) × (whole binary64 y ⊑ whole binary64 (greater x y))
unfolding greater ◌≺◌
greater_ok x y o u = go (lt x y) (lt_whole binary64 x y o u) (not_lt binary64 x y o u)
  where
    loosen : (x y : Whole) → x ⊏ y → x ⊑ y
    loosen x y h = omega arith

    go : (l : Bool) → (T l → whole binary64 x ⊏ whole binary64 y) → (l ≡ false → whole binary64 y ⊑ whole binary64 x)
        → Ok binary64 (cond l y x) × (whole binary64 x ⊑ whole binary64 (cond l y x)) × (whole binary64 y ⊑ whole binary64 (cond l y x))
    go true h k = (u, loosen (whole binary64 x) (whole binary64 y) (h tt), up_same (whole binary64 y))
    go false h k = (o, up_same (whole binary64 x), k refl)

first_greater : (y : Float) → Ok binary64 y → greater (inf true) y ≡ y
unfolding greater ◌≺◌ lt
first_greater (inf _) o = elim o [ ]
first_greater lib.Ieee.nan o = elim o [ ]
first_greater (fin s m e) o = refl

-- the largest of four doubles is one, and each is at most that
largest_of : (a b c d : Float) → Ok binary64 a → Ok binary64 b → Ok binary64 c → Ok binary64 d
    → let m = greater (greater (greater (greater (inf true) a) b) c) d in
    Ok binary64 m × (whole binary64 a ⊑ whole binary64 m) × (whole binary64 b ⊑ whole binary64 m) × (whole binary64 c ⊑ whole binary64 m) × (whole binary64 d ⊑ whole binary64 m)
largest_of a b c d oa ob oc od =
    rw (first_greater a oa)
    (let x = greater_ok a b oa ob in
    let ab = greater a b in
    let y = greater_ok ab c x.0 oc in
    let abc = greater ab c in
    let z = greater_ok abc d y.0 od in
    let m = greater abc d in
    let up = up_trans (whole binary64 ab) (whole binary64 abc) (whole binary64 m) y.1 z.1 in (
      z.0,
      up_trans (whole binary64 a) (whole binary64 ab) (whole binary64 m) x.1 up,
      up_trans (whole binary64 b) (whole binary64 ab) (whole binary64 m) x.2 up,
      up_trans (whole binary64 c) (whole binary64 abc) (whole binary64 m) y.2 z.1,
      z.2,
    ))

-- ---- the tests
pub any_none : {A : Type 0} (p : A → Bool) (a b c d : A) → any p (a ∷ b ∷ c ∷ d ∷ []) ≡ false → (p a ≡ false) × (p b ≡ false) × (p c ≡ false) × (p d ≡ false)
unfolding any
any_none p a b c d e =
    let i = or_none (p a) (p b || (p c || (p d || false))) e in
    let j = or_none (p b) (p c || (p d || false)) i.1 in
    let k = or_none (p c) (p d || false) j.1 in
    (i.0, j.0, k.0, (or_none (p d) false k.1).0)

pub no_metrics : (y : Quality) → passes y absent ≡ true → ⊥
unfolding passes
no_metrics y e = is_not (sym e) tt

both_pass : (y : Quality) (sj k : Float) → passes y (measured sj k) ≡ true → ((sj ≺ y.least_jacobian) ≡ false) × ((y.largest_cosine ≺ k) ≡ false)
unfolding passes
both_pass y sj k e =
    let p = not (sj ≺ y.least_jacobian) in
    let q = not (y.largest_cosine ≺ k) in
    let i = both (finite sj && finite k && p) q e in
    (not-true (sj ≺ y.least_jacobian) (both (finite sj && finite k) p i.0).1, not-true (y.largest_cosine ≺ k) i.1)

passed : (y : Quality) (a b c d : Node) → passes y (quad_metrics a b c d) ≡ true → Passed y a b c d
unfolding quad_metrics
passed y a b c d e =
    go (twice_area a b c d ≼ tiny_cross) (any not_convex (corners a b c d)) (any (λ k. k.sides ≼ 0·0) (map angle_of (corners a b c d))) refl e
  where
    result : Metrics
    result = measured (min_scaled_jacobian a b c d) (largest_cosine (map angle_of (corners a b c d)))

    go : (x w z : Bool) → any not_convex (corners a b c d) ≡ w → passes y (cond (x || w || z) absent result) ≡ true → Passed y a b c d
    go true w z h e = absurd (no_metrics y e)
    go false true z h e = absurd (no_metrics y e)
    go false false true h e = absurd (no_metrics y e)
    go false false false h e =
        let p = both_pass y (min_scaled_jacobian a b c d) (largest_cosine (map angle_of (corners a b c d))) e in
        record { convex = h; cosine = p.1; jacobian = p.0 }

module _ (y : Quality) (limit : BelowOne y.largest_cosine) where
  -- one corner, where its clamped cosine is at most the largest one, which passes
  one : (k : Corner) (n : At 8 k.before × At 8 k.here × At 8 k.after) (h : not_convex k ≡ false) (m : Float) → whole binary64 (cosine (angle_of k)) ⊑ whole binary64 m → whole binary64 m ⊑ whole binary64 y.largest_cosine → CosineNear y.largest_cosine k
  unfolding cosine ◌≼◌
  one k n h m c l =
      let t = y.largest_cosine in
      let q = measured_corner k n h in
      let quotient = (angle_of k).product ⊘ (angle_of k).sides in
      let i = (clamp_cases quotient t q.0 limit).1 (up_trans (whole binary64 (clamp quotient)) (whole binary64 m) (whole binary64 t) c l) in
      q.1 t limit.0 (loosen (whole binary64 t).0 (2 ^ 1074) limit.2) (whole_le binary64 quotient t q.0 limit.0 i)
    where
      loosen : (a b : ℕ) → a < b → a ≤ b
      loosen a b h = omega arith

  cosine_ok : (k : Corner) (n : At 8 k.before × At 8 k.here × At 8 k.after) → not_convex k ≡ false → Ok binary64 (cosine (angle_of k))
  unfolding cosine
  cosine_ok k n h = (clamp_cases ((angle_of k).product ⊘ (angle_of k).sides) y.largest_cosine (measured_corner k n h).0 limit).0

  pub four_corners : (a b c d : Node) → At 8 a → At 8 b → At 8 c → At 8 d → passes y (quad_metrics a b c d) ≡ true
      → All TurnsLeft (corners a b c d) × All (CosineNear y.largest_cosine) (corners a b c d)
  unfolding corners corner_of largest_cosine ◌≺◌
  four_corners a b c d A B C D e =
      let p = passed y a b c d e in
      let ka = corner_of d a b in
      let kb = corner_of a b c in
      let kc = corner_of b c d in
      let kd = corner_of c d a in
      let v = any_none not_convex ka kb kc kd p.convex in
      let na : At 8 d × At 8 a × At 8 b = (D, A, B) in
      let nb : At 8 a × At 8 b × At 8 c = (A, B, C) in
      let nc : At 8 b × At 8 c × At 8 d = (B, C, D) in
      let nd : At 8 c × At 8 d × At 8 a = (C, D, A) in
      let g = largest_of (cosine (angle_of ka)) (cosine (angle_of kb)) (cosine (angle_of kc)) (cosine (angle_of kd)) (cosine_ok ka na v.0) (cosine_ok kb nb v.1) (cosine_ok kc nc v.2) (cosine_ok kd nd v.3) in
      let m = largest_cosine (map angle_of (corners a b c d)) in
      let l = not_lt binary64 y.largest_cosine m limit.0 g.0 p.cosine in (
        (turns_left ka na v.0, (turns_left kb nb v.1, (turns_left kc nc v.2, (turns_left kd nd v.3, tt)))),
        (one ka na v.0 m g.1 l, (one kb nb v.1 m g.2 l, (one kc nc v.2 m g.3 l, (one kd nd v.3 m g.4 l, tt)))),
      )
