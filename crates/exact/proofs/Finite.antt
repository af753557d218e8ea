-- What a run sorts by or compares with 0 is a finite double: lengths, perimeters of up to 65,536 edges,
use Rattle.std.specs.Prelude.{◌≡◌, ◌⊎◌, ◌&&◌, ◌||◌, ◌+◌, ◌*◌, ◌/◌, ◌^◌, ◌<◌, ◌≤◌, ◌∷◌}
use Rattle.laws.specs.Kit.{refl, ap, inl, inr, Bool, true, false, not, cond, ℕ, zero, suc, arith, mul-le-mul_right, ltb, lit≤, T, pow_pos, List, [], map, foldl, length, get_or, Float, binary64, nan, fin, inf, down, up, of_bits, fits, round, eq, lt, le, add, sub, mul}
use Rattle.std.specs.Float.{Format}
use Rattle.std.specs.Float.Ieee.{prec, low, size}
use Rattle.std.specs.Float.Ieee.Fits.{and_l, round-fits, cond-fits, nan-fits, inf-fits, sub-fits, div-fits}
use Rattle.std.specs.Float.Ieee.Scale.{overflow}
use Rattle.definition.specs.Root.{isqrt, scale, sqrt}
use Rattle.definition.specs.Floats.{◌≺◌, ◌≼◌, ◌⊘◌, f64, lesser, 0·0, 1·0, 8·0}
use Rattle.definition.specs.Floats as floats
use Rattle.definition.specs.Lists.{any}
use Rattle.definition.specs.Numbers.{Quality, tiny_cross}
use Rattle.definition.specs.Plane.{Node, Vec, Edge, flat, point, from_to, dist, side, edge_length}
use Rattle.definition.specs.Plane as plane
use Rattle.definition.specs.Loops.{loop_perimeter}
use Rattle.definition.specs.Metrics.{Metrics, absent, measured, corners, not_convex, angle_of, largest_cosine, Weights, scaled, jacobian_at, min_scaled_jacobian, quad_metrics, passes, score}
use Rattle.definition.specs.Account.{All}
use Rattle.definition.specs.Call.{outside, most_coordinate}
use Rattle.laws.specs.Bools.{to_T}
use Rattle.exact.specs.Near.{Whole, Near, Within, ◌⊕◌, ◌⊖◌, ◌⊗◌, ◌⊙◌}
use Rattle.exact.proofs.Near.{within_mul, within_cut, root_le}
use Rattle.exact.specs.Values.{whole, sign, Ok}
use Rattle.exact.proofs.Values.{ok_finite, one_sided, mul_got}
use Rattle.exact.proofs.Sums.{add_got}
use Rattle.exact.proofs.Room.{Room, room64, fine, deeper, product_err, product_fits}
use Rattle.exact.specs.Dot.{dot}
use Rattle.exact.proofs.Dot.{comp, dot_bound}
use Rattle.exact.proofs.Corner.{parts_twice}
use Rattle.exact.specs.Units.{W, wx, wy}
use Rattle.exact.specs.Cross.{crossW}
use Rattle.exact.proofs.Lengths.{length_root, round_sign}
use Rattle.exact.proofs.Order.{is_not}
use Rattle.exact.proofs.Passing.{no_metrics}
use Rattle.exact.specs.Points.{At, exactly}
use Rattle.exact.proofs.Points.{within_8, further, cross_ok, zero_ok, zero_is}
use Rattle.exact.specs.Finite.{Positive}

-- ---- the points of a list
origin : outside (flat 0·0 0·0) ≡ false
unfolding outside flat 0·0 f64 of_bits floats.abs floats.◌≼◌ le lt eq most_coordinate 8·0
origin = refl

pub within_point : (ps : List Node) (i : ℕ) → All (λ p. outside p ≡ false) ps → outside (point ps i) ≡ false
unfolding point
within_point ps i h = go ps i h
  where
    go : (ps : List Node) (i : ℕ) → All (λ p. outside p ≡ false) ps → outside (get_or ps i (flat 0·0 0·0)) ≡ false
    go [] i u = origin
    go (p ∷ ps) zero (h, u) = h
    go (p ∷ ps) (suc i) (h, u) = go ps i u

-- ---- lengths
length_most : (d : Whole) (w L : ℕ) → (d.0 ≡ 0) ⊎ (d.1 ≡ 0) → Within d (2048 * L) → w * w ≤ 2 * (d.0 * L) → w ≤ 64 * L
length_most d w L (inl e) h k = root_le w (64 * L) (omega (arith, ap (λ (x : ℕ). x * L) e))
length_most d w L (inr e) h k = let i : d.0 ≤ 2048 * L = omega arith in root_le w (64 * L) (omega (arith, mul-le-mul_right L i))

pub dist_ok : (a b : Node) → At 8 a → At 8 b → Positive 64 (dist a b)
unfolding dist from_to plane.norm dot floats.◌⊕◌ floats.◌⊖◌ floats.◌⊗◌
dist_ok a b A B =
    let q = 2 ^ 1021 in
    let x = sub binary64 a.x b.x in
    let y = sub binary64 a.y b.y in
    let c = comp binary64 q room64 a.x b.x A.0 B.0 in
    let d = comp binary64 q room64 a.y b.y A.1 B.1 in
    let r = length_root x y (wx b a) (wy b a) c d in
    let z = whole binary64 (dot binary64 x y x y) in
    let w = (whole binary64 (dist a b)).0 in
    (r.0, r.1, length_most z w (2 ^ 1074) (one_sided binary64 (dot binary64 x y x y)) (dot_bound binary64 q room64 x y x y (wx b a) (wy b a) (wx b a) (wy b a) c d c d) (parts_twice 5 (w * w) (z.0 * 2 ^ 1074) (lit≤ tt) r.2).0)

pub length_ok : (ps : List Node) (e : Edge) → All (λ p. outside p ≡ false) ps → Positive 64 (edge_length ps e)
unfolding edge_length
length_ok ps e h = dist_ok (point ps e.1) (point ps e.0) (within_8 (point ps e.1) (within_point ps e.1 h)) (within_8 (point ps e.0) (within_point ps e.0 h))

-- ---- perimeters
sum_room : (k L Q q : ℕ) → L ≡ Q * q → k + 1 ≤ 65536 → 66 * k * L + 64 * L ≤ Q * (8388608 * q)
sum_room k L Q q e h = omega (arith, mul-le-mul_right L h)

sum_fits : (k L O : ℕ) → 0 < L → k + 1 ≤ 65536 → 1073741824 * L ≤ O → 2 * (66 * k * L + 64 * L) + 4 < O
sum_fits k L O P h o = omega (arith, mul-le-mul_right L h)

sum_step : (r z : Whole) (k L q : ℕ) → 16777216 * q ≤ L → 16 ≤ L → Within z (66 * k * L + 64 * L) → Near r z (8388608 * q + 4) → Within r (66 * (k + 1) * L)
sum_step r z k L q h p w n = omega arith

module _ (f : Format) (q : ℕ) (R : Room f q) where
  -- k lengths so far
  pub add_length : (x y : Float) (k : ℕ) → k + 1 ≤ 65536 → Ok f x → Within (whole f x) (66 * k * 2 ^ low f) → Ok f y → Within (whole f y) (64 * 2 ^ low f) → Ok f (add f x y) × Within (whole f (add f x y)) (66 * (k + 1) * 2 ^ low f)
  add_length x y k l a b c d =
      let L = 2 ^ low f in
      let s = add_got f x y (66 * k * L) (64 * L) (8388608 * q) (ok_finite f x a) (ok_finite f y c) b d (sum_room k L (2 ^ prec f) q R.unit l) (sum_fits k L (overflow f) (pow_pos (low f)) l R.wide) in
      (s.0, sum_step (whole f (add f x y)) (whole f x ⊕ whole f y) k L q (fine f q R) (omega (arith, R.deep, deeper f q R)) (both (whole f x) (whole f y) (66 * k * L) (64 * L) b d) s.1)
    where
      both : (x y : Whole) (A B : ℕ) → Within x A → Within y B → Within (x ⊕ y) (A + B)
      both x y A B h k = omega arith

positive_within : (z : Whole) (B : ℕ) → z.1 ≡ 0 → z.0 ≤ B → Within z B
positive_within z B e h = omega arith

pub perimeter_ok : (ps : List Node) (es : List Edge) → All (λ p. outside p ≡ false) ps → length es ≤ 65536 → Ok binary64 (loop_perimeter ps es)
unfolding loop_perimeter floats.◌⊕◌
perimeter_ok ps es h l = go es 0·0 0 zero_ok (rw zero_is (nothing (2 ^ 1074))) (start (length es) l)
  where
    start : (n : ℕ) → n ≤ 65536 → 0 + n ≤ 65536
    start n h = omega arith

    nothing : (L : ℕ) → Within (0, 0) (66 * 0 * L)
    nothing L = omega arith

    first : (k n : ℕ) → k + suc n ≤ 65536 → k + 1 ≤ 65536
    first k n h = omega arith

    later : (k n : ℕ) → k + suc n ≤ 65536 → k + 1 + n ≤ 65536
    later k n h = omega arith

    go : (es : List Edge) (x : Float) (k : ℕ) → Ok binary64 x → Within (whole binary64 x) (66 * k * 2 ^ 1074) → k + length es ≤ 65536 → Ok binary64 (foldl (λ sum e. add binary64 sum (edge_length ps e)) x es)
    go [] x k o w b = o
    go (e ∷ es) x k o w b =
        let d = length_ok ps e h in
        let s = add_length binary64 (2 ^ 1021) room64 x (edge_length ps e) k (first k (length es) b) o w d.0 (positive_within (whole binary64 (edge_length ps e)) (64 * 2 ^ 1074) d.1 d.2) in
        go es (add binary64 x (edge_length ps e)) (k + 1) s.0 s.1 (later k (length es) b)

-- ---- products of two cross products
cross_most : (r C : Whole) (L q : ℕ) → 0 < L → 16777216 * q ≤ L → Within C (512 * L * L) → Near (r ⊙ L) C (6600 * (q * L)) → Within r (600 * L)
cross_most r C L q P h w n = within_cut r (600 * L) L P (omega (arith, mul-le-mul_right L h))

exactly_most : (ax ay bx by cx cy : Whole) (L : ℕ) → Within ax (8 * L) → Within ay (8 * L) → Within bx (8 * L) → Within by (8 * L) → Within cx (8 * L) → Within cy (8 * L) → Within (crossW ax ay bx by cx cy) (512 * L * L)
exactly_most ax ay bx by cx cy L a a' b b' c c' =
    let u = within_mul (bx ⊖ ax) (cy ⊖ ay) (16 * L) (16 * L) (apart bx ax b a) (apart cy ay c' a') in
    let v = within_mul (by ⊖ ay) (cx ⊖ ax) (16 * L) (16 * L) (apart by ay b' a') (apart cx ax c a) in
    both ((bx ⊖ ax) ⊗ (cy ⊖ ay)) ((by ⊖ ay) ⊗ (cx ⊖ ax)) u v
  where
    apart : (x y : Whole) → Within x (8 * L) → Within y (8 * L) → Within (x ⊖ y) (16 * L)
    apart x y h k = omega arith

    both : (x y : Whole) → Within x (16 * L * (16 * L)) → Within y (16 * L * (16 * L)) → Within (x ⊖ y) (512 * L * L)
    both x y h k = omega arith

module _ (f : Format) (q : ℕ) (R : Room f q) where
  pub product_ok : (x y : Float) → Ok f x → Ok f y → Within (whole f x) (600 * 2 ^ low f) → Within (whole f y) (600 * 2 ^ low f) → Ok f (mul f x y)
  product_ok x y o u h k =
      let L = 2 ^ low f in
      (mul_got f x y (600 * L) (600 * L) (360001 * (q * L)) o u h k (product_err f q R 360000 (600 * L * (600 * L)) (omega arith)) (product_fits f q R 360000 (600 * L * (600 * L)) (lit≤ tt) (omega arith))).0

  cross_bound : (r C : Whole) → Within C (512 * 2 ^ low f * 2 ^ low f) → Near (r ⊙ 2 ^ low f) C (6600 * (q * 2 ^ low f)) → Within r (600 * 2 ^ low f)
  cross_bound r C w n = cross_most r C (2 ^ low f) q (pow_pos (low f)) (fine f q R) w n

-- a cross product of three points
pub side_ok : (a b c : Node) → At 8 a → At 8 b → At 8 c → Ok binary64 (side a b c) × Within (whole binary64 (side a b c)) (600 * 2 ^ 1074)
unfolding side
side_ok a b c A B C =
    let s = cross_ok a b c A B (further c 8 40 (lit≤ tt) C) in
    (s.0, cross_bound binary64 (2 ^ 1021) room64 (whole binary64 (plane.cross a b c)) (exactly a b c) (exactly_most (W a.x) (W a.y) (W b.x) (W b.y) (W c.x) (W c.y) (2 ^ 1074) A.0.1 A.1.1 B.0.1 B.1.1 C.0.1 C.1.1) s.1)

pub sides_ok : (p q r s : Node) → At 8 p → At 8 q → At 8 r → At 8 s → Ok binary64 (floats.◌⊗◌ (side p q r) (side p q s))
unfolding floats.◌⊗◌
sides_ok p q r s hp hq hr hs =
    let a = side_ok p q r hp hq hr in
    let b = side_ok p q s hp hq hs in
    product_ok binary64 (2 ^ 1021) room64 (side p q r) (side p q s) a.0 b.0 a.1 b.1

-- ---- scores
below_ok : (r x : Float) → T (fits binary64 r) → sign r ≡ false → Ok binary64 x → T (lt r x) → Ok binary64 r
unfolding lt
below_ok nan x f s o t = absurd t
below_ok (inf false) (inf _) f s o t = elim o [ ]
below_ok (inf false) nan f s o t = elim o [ ]
below_ok (inf true) x f s o t = absurd (is_not s tt)
below_ok (inf false) (fin u n d) f s o t = absurd t
below_ok (fin u m e) x f s o t = f

-- a root that is below a finite double is finite
root_below : (z x : Float) → T (fits binary64 z) → Ok binary64 x → T (lt (sqrt z) x) → Ok binary64 (sqrt z)
unfolding sqrt lt
root_below nan x f o t = absurd t
root_below (inf false) (inf _) f o t = elim o [ ]
root_below (inf false) nan f o t = elim o [ ]
root_below (inf true) x f o t = absurd t
root_below (inf false) (fin u n d) f o t = absurd t
root_below (fin s zero e) x f o t = f
root_below (fin true (suc m) e) x f o t = absurd t
root_below (fin false (suc m) e) x f o t =
    let h = scale e in
    let n = suc m * up e * 4 ^ h / down e in
    let r = isqrt (size n / 2 + 1) n in
    let a = 2 * r + cond (ltb (r * r) n) 1 0 in
    below_ok (round binary64 false a (2 * 2 ^ h)) x (round-fits binary64 false a (2 * 2 ^ h)) (round_sign binary64 false a (2 * 2 ^ h)) o t

lesser_fits : (x y : Float) → T (fits binary64 x) → T (fits binary64 y) → T (fits binary64 (lesser x y))
unfolding lesser
lesser_fits x y f g = cond-fits binary64 (y ≺ x) y x g f

scaled_fits : (j k : Vec) → T (fits binary64 (scaled j k))
unfolding scaled ◌⊘◌
scaled_fits j k =
    let lengths = floats.◌⊗◌ (plane.norm j) (plane.norm k) in
    cond-fits binary64 (0·0 ≺ lengths) _ nan (div-fits binary64 _ lengths) (nan-fits binary64)

corner_fits : (a b c d : Node) (v w : Weights) → T (fits binary64 (jacobian_at a b c d v w))
unfolding jacobian_at
corner_fits a b c d v w = scaled_fits _ _

jacobian_fits : (a b c d : Node) → T (fits binary64 (min_scaled_jacobian a b c d))
unfolding min_scaled_jacobian
jacobian_fits a b c d =
    lesser_fits _ _ (lesser_fits _ _ (lesser_fits _ _ (lesser_fits _ _ (inf-fits binary64 false) (corner_fits a b c d _ _)) (corner_fits a b c d _ _)) (corner_fits a b c d _ _)) (corner_fits a b c d _ _)

finite_ok : (x : Float) → T (fits binary64 x) → T (floats.finite x) → Ok binary64 x
unfolding floats.finite
finite_ok (inf _) f t = elim t [ ]
finite_ok nan f t = elim t [ ]
finite_ok (fin s m e) f t = f

lesser_ok : (x z : Float) → Ok binary64 x → T (fits binary64 z) → Ok binary64 (lesser x (sqrt z))
unfolding lesser ◌≺◌
lesser_ok x z o f = go (lt (sqrt z) x) (λ t. root_below z x f o t)
  where
    go : (l : Bool) → (T l → Ok binary64 (sqrt z)) → Ok binary64 (cond l (sqrt z) x)
    go true h = h tt
    go false h = o

finite_jacobian : (y : Quality) (sj k : Float) → passes y (measured sj k) ≡ true → T (floats.finite sj)
unfolding passes
finite_jacobian y sj k e =
    let p = not (sj ≺ y.least_jacobian) in
    let q = not (y.largest_cosine ≺ k) in
    and_l (floats.finite sj) (floats.finite k) (and_l (floats.finite sj && floats.finite k) p (and_l (floats.finite sj && floats.finite k && p) q (to_T e)))

measured_score : (y : Quality) (sj k : Float) → T (fits binary64 sj) → passes y (measured sj k) ≡ true → Ok binary64 (score (measured sj k))
unfolding score floats.◌⊖◌
measured_score y sj k f e = lesser_ok sj (floats.◌⊖◌ 1·0 (floats.◌⊗◌ k k)) (finite_ok sj f (finite_jacobian y sj k e)) (sub-fits binary64 1·0 (floats.◌⊗◌ k k))

-- of a quad that passes
pub score_ok : (y : Quality) (a b c d : Node) → passes y (quad_metrics a b c d) ≡ true → Ok binary64 (score (quad_metrics a b c d))
unfolding quad_metrics
score_ok y a b c d e = go (plane.twice_area a b c d ≼ tiny_cross || any not_convex (corners a b c d) || any (λ k. k.sides ≼ 0·0) (map angle_of (corners a b c d))) e
  where
    result : Metrics
    result = measured (min_scaled_jacobian a b c d) (largest_cosine (map angle_of (corners a b c d)))

    go : (l : Bool) → passes y (cond l absent result) ≡ true → Ok binary64 (score (cond l absent result))
    go true e = absurd (no_metrics y e)
    go false e = measured_score y (min_scaled_jacobian a b c d) (largest_cosine (map angle_of (corners a b c d))) (jacobian_fits a b c d) e
