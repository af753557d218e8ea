-- How far the point lies that an insertion tries: the unit normal's components are at most 5 / 4 in magnitude,
-- a share of the target at most 24, so the point is within 40.
-- (The normal is 1 to a few parts in 10 ^ 12, and the target at most 23: coarse bounds do.) Assumes nothing.
use Rattle.std.specs.Prelude.{◌≡◌, ◌+◌, ◌-◌, ◌*◌, ◌^◌, ◌<◌, ◌≤◌}
use Rattle.laws.specs.Kit.{sym, ap, subst, inl, inr, ℕ, arith, dec_le, mul-pos, mul-le-mul, mul-le-mul_left, mul-le-mul_right, le_of_mul-le-mul_right, lit≤, pow_pos, Float, fin, down, up, add, mul, div}
use Rattle.std.proofs.Common.{le_trans, le_of_eq}
use Rattle.std.proofs.Math.Nat.{le_of_mul-le-mul_left}
use Rattle.std.specs.Float.{Format}
use Rattle.std.specs.Float.Ieee.{prec, low, unlike}
use Rattle.std.specs.Float.Ieee.Fits.{down_pos}
use Rattle.std.specs.Float.Ieee.Scale.{grid, overflow}
use Rattle.exact.specs.Near.{Whole, Near, Within, abs, ◌⊗◌, ◌⊙◌}
use Rattle.exact.proofs.Near.{within_mul, within_cut, abs_within, abs_scale, root_le}
use Rattle.exact.specs.Parts.{M, Parts}
use Rattle.exact.proofs.Parts.{MMany}
use Rattle.exact.proofs.Round.{rounded_err}
use Rattle.exact.specs.Values.{whole, mag, Ok}
use Rattle.exact.proofs.Values.{signed_within, ok_finite, one_sided, round_got, prec_pos, half_le, mul_got, div_rel}
use Rattle.exact.specs.Sums.{Number}
use Rattle.exact.proofs.Sums.{mag_cut, add_got}
use Rattle.exact.specs.Room.{Coord}
use Rattle.exact.proofs.Room.{Room, fine, four, deeper, product_err, product_fits}
use Rattle.exact.specs.Root.{Root}
use Rattle.exact.specs.Dot.{dot, dotW}
use Rattle.exact.proofs.Dot.{Comp, dot_near}
use Rattle.exact.specs.Corner.{norm}
use Rattle.exact.proofs.Corner.{norm_is, norm_small, parts_twice, Length, length}

-- ---- the numbers
-- the sum of squares d is at most 2 N, where it is not negative
sum_most : (d m : Whole) (L Q N : ℕ) → 16777216 ≤ Q → d.1 ≡ 0 → Near (d ⊙ L ⊙ Q) (m ⊙ Q) (7 * N + 500 * (Q * L)) → Near m (N, 0) 0 → d.0 * L ≤ 2 * N + 500 * L
sum_most d m L Q N h z n e = le_of_mul-le-mul_right {k = Q} (omega (arith, n, mul-le-mul_right Q e.0, mul-le-mul_right Q e.1, mul-le-mul_right N h, ap (λ (x : ℕ). x * L * Q) z)) (omega arith)

-- a length W of at least t is no rounding error
not_short : (t W d L Q N : ℕ) → 0 < Q * L → 1 ≤ Q → 1000000 * (Q * L) ≤ t * t → t ≤ W → W * W ≤ 2 * (d * L) → d * L ≤ 2 * N + 500 * L → 500 * (Q * L) ≤ N
not_short t W d L Q N P o h k s l = elim (dec_le (500 * (Q * L)) N) [ yes g ↦ g | no g ↦ absurd (omega (arith, mul-le-mul k k, mul-le-mul_right L o)) ]

close : (a b : ℕ) → Parts 7 a b → 999993 * b ≤ 1000000 * a
close a b h = le_of_mul-le-mul_left {k = M} (omega (arith, mul-le-mul_right b MMany)) (omega (arith, MMany))

side_most : (z W N : ℕ) → z * z ≤ N → 999993 * N ≤ 1000000 * (W * W) → 100 * z ≤ 101 * W
side_most z W N h k = root_le (100 * z) (101 * W) (omega arith)

-- the float component X of the exact one z
component_most : (X z : Whole) (Q W : ℕ) → 16777216 ≤ Q → 1000000 ≤ W → 100 * abs z ≤ 101 * W → Near (X ⊙ Q) (z ⊙ Q) (abs z + 4 * Q) → 100 * abs X ≤ 102 * W
component_most X z Q W h w k n =
    let a : Within (z ⊙ Q) (abs z * Q) = omega (arith, mul-le-mul_right Q (abs_within z).0, mul-le-mul_right Q (abs_within z).1) in
    let b : 1000 * abs z ≤ abs z * Q = omega (arith, mul-le-mul_left (abs z) h) in
    let c : abs X * Q ≤ abs z * Q + (abs z + 4 * Q) = abs_scale X Q (abs z * Q + (abs z + 4 * Q)) (omega arith) in
    le_of_mul-le-mul_right {k = Q} (omega (arith, mul-le-mul_right Q k, mul-le-mul_right Q w)) (omega arith)

quotient_most : (r X : Whole) (L Q H W : ℕ) → 0 < W → 16777216 ≤ Q → 16777216 ≤ L → H ≤ Q → 100 * abs X ≤ 102 * W → Near (r ⊙ W ⊙ Q) (X ⊙ L ⊙ Q) (abs X * L + H * W) → 4 * abs r ≤ 5 * L
quotient_most r X L Q H W P q l h k n =
    let A = abs X in
    let a : Within (X ⊙ L ⊙ Q) (A * L * Q) = omega (arith, mul-le-mul_right (L * Q) (abs_within X).0, mul-le-mul_right (L * Q) (abs_within X).1) in
    let b : abs r * (W * Q) ≤ A * L * Q + (A * L + H * W) = abs_scale r (W * Q) (A * L * Q + (A * L + H * W)) (omega arith) in
    let c : 100 * (A * L * Q) ≤ 102 * (W * L * Q) = omega (arith, mul-le-mul_right (L * Q) k) in
    let d : 100 * (A * L) ≤ 102 * (W * L) = omega (arith, mul-le-mul_right L k) in
    let e : 16777216 * (W * L) ≤ W * L * Q = omega (arith, mul-le-mul_left (W * L) q) in
    let f : H * W ≤ W * Q = omega (arith, mul-le-mul_right W h) in
    let g : 16777216 * (W * Q) ≤ W * L * Q = omega (arith, mul-le-mul_right (W * Q) l) in
    le_of_mul-le-mul_right {k = W * Q} (omega arith) (mul-pos P (omega arith))

share_bound : (g L Q H : ℕ) → 16777216 ≤ Q → 16777216 ≤ L → H ≤ Q → Q * (g * L) ≤ (Q + 1) * ((L + 1) * (23 * L + 1)) + H * L → g ≤ 24 * L
share_bound g L Q H q l h b =
    let a : g * (Q * L) ≤ 23 * (L * (Q * L)) + 24 * (Q * L) + Q + (23 * (L * L) + 24 * L + 1) + H * L = omega arith in
    let c : H * L ≤ Q * L = mul-le-mul_right L h in
    let d : 16777216 * (L * L) ≤ L * (Q * L) = omega (arith, mul-le-mul_right (L * L) q) in
    let e : 16777216 * (Q * L) ≤ L * (Q * L) = mul-le-mul_right (Q * L) l in
    let i : 16777216 * Q ≤ Q * L = omega (arith, mul-le-mul_left Q l) in
    let j : 16777216 * L ≤ L * L = mul-le-mul_right L l in
    le_of_mul-le-mul_right {k = Q * L} (le_trans (sum (g * (Q * L)) (L * (Q * L)) (Q * L) Q (L * L) L (H * L) a c d e i j l) (le_of_eq (regroup L (Q * L)))) (mul-pos (omega arith) (omega arith))
  where
    sum : (g t u q s l h : ℕ) → g ≤ 23 * t + 24 * u + q + (23 * s + 24 * l + 1) + h → h ≤ u → 16777216 * s ≤ t → 16777216 * u ≤ t → 16777216 * q ≤ u → 16777216 * l ≤ s → 16777216 ≤ l → g ≤ 24 * t
    sum g t u q s l h a b c d e f i = omega arith

    regroup : (l u : ℕ) → 24 * (l * u) ≡ 24 * l * u
    regroup l u = omega arith

share_most : (g a c L Q H X Y : ℕ) → 0 < c → 16777216 ≤ Q → 16777216 ≤ L → H ≤ Q → a * L * L ≤ (X + 1) * (Y + 1) * c → Q * (g * c) ≤ Q * (a * L) + (a * L + H * c) → X ≤ L → Y ≤ 23 * L → g ≤ 24 * L
share_most g a c L Q H X Y P q l h i j x y =
    let k : (X + 1) * (Y + 1) ≤ (L + 1) * (23 * L + 1) = mul-le-mul (omega arith) (omega arith) in
    let m : a * L * L ≤ (L + 1) * (23 * L + 1) * c = omega (arith, mul-le-mul_right c k) in
    let b : Q * (g * L) ≤ (Q + 1) * ((L + 1) * (23 * L + 1)) + H * L =
    le_of_mul-le-mul_right {k = c} (omega (arith, mul-le-mul_right L j, mul-le-mul_left Q m)) P in
    share_bound g L Q H q l h b

cut_product : (m n L X Y d c : ℕ) → m * L < (X + 1) * d → n * L < (Y + 1) * c → m * n * L * L ≤ (X + 1) * (Y + 1) * (d * c)
cut_product m n L X Y d c h k =
    let a : m * L ≤ (X + 1) * d = omega arith in
    let b : n * L ≤ (Y + 1) * c = omega arith in
    omega (arith, mul-le-mul a b)

fits_quotient : (L O : ℕ) → 0 < L → 1073741824 * L ≤ O → 2 * (2 * L) + 1 < O
fits_quotient L O P h = omega arith

move_size : (L n : ℕ) → 4 * n ≤ 5 * L → 24 * L * n ≤ 30 * L * L
move_size L n k = omega (arith, mul-le-mul_left L k)

move_most : (r z : Whole) (L q n : ℕ) → 0 < L → 16777216 * q ≤ L → 4 * n ≤ 5 * L → Near (r ⊙ L) z (31 * (q * L)) → Within z (24 * L * n) → Within r (31 * L)
move_most r z L q n P h k e w = within_cut r (31 * L) L P (omega (arith, e, w, mul-le-mul_left L k, mul-le-mul_right L h))

-- ---- over the format
module _ (f : Format) (q : ℕ) (R : Room f q) where
  large : 16777216 ≤ 2 ^ low f
  large = omega (arith, R.deep, deeper f q R)

  -- the length w of the vector z, where it is at least t units
  pub long : (x0 x1 w : Float) (z0 z1 : Whole) (t : ℕ) → Comp f q R x0 z0 → Comp f q R x1 z1 → Root f (dot f x0 x1 x0 x1) w → 1000000 * (2 ^ prec f * 2 ^ low f) ≤ t * t → t ≤ (whole f w).0 → Length f q R w (norm z0 z1)
  long x0 x1 w z0 z1 t h k r far l =
      let L = 2 ^ low f in
      let Q = 2 ^ prec f in
      let N = norm z0 z1 in
      let d = whole f (dot f x0 x1 x0 x1) in
      let WW = (whole f w).0 * (whole f w).0 in
      let n = (dot_near f q R x0 x1 x0 x1 z0 z1 z0 z1 h k h k).1 in
      let P : 0 < Q * L = mul-pos (pow_pos (prec f)) (pow_pos (low f)) in
      let s : WW ≤ 2 * (d.0 * L) = (parts_twice 5 WW (d.0 * L) (omega arith) r.2).0 in
      let z : d.1 ≡ 0 = elim (one_sided f (dot f x0 x1 x0 x1)) [
        | inl e ↦ absurd (omega (arith, mul-le-mul l l, ap (λ (x : ℕ). x * L) e))
        | inr e ↦ e
      ] in
      length f q R x0 x1 w z0 z1 h k (not_short t (whole f w).0 d.0 L Q N P (pow_pos (prec f)) far l s (sum_most d (dotW z0 z1 z0 z1) L Q N R.deep z n (norm_is z0 z1))) r

  -- it is at most 23
  pub span_most : (w : Float) (z0 z1 : Whole) → Length f q R w (norm z0 z1) → abs z0 ≤ 16 * 2 ^ low f → abs z1 ≤ 16 * 2 ^ low f → (whole f w).0 ≤ 23 * 2 ^ low f
  span_most w z0 z1 h a b =
      let L = 2 ^ low f in
      go (whole f w).0 (norm z0 z1) L (norm_small L (abs z0) (abs z1) a b) h.2
    where
      go : (W N L : ℕ) → N ≤ 512 * L * L → Parts 7 (W * W) N → W ≤ 23 * L
      go W N L s p =
          let i : 1000000 * (W * W) ≤ 1000007 * N = le_of_mul-le-mul_left {k = M} (omega (arith, mul-le-mul_right N MMany)) (omega (arith, MMany)) in
          root_le W (23 * L) (omega arith)

  -- a component of the vector over its length
  pub unit : (x w : Float) (z : Whole) (N : ℕ) → Comp f q R x z → abs z * abs z ≤ N → Length f q R w N → 1000000 ≤ (whole f w).0 → Ok f (div f x w) × (4 * abs (whole f (div f x w)) ≤ 5 * 2 ^ low f)
  unit x w z N h s l b =
      let L = 2 ^ low f in
      let Q = 2 ^ prec f in
      let W = (whole f w).0 in
      let X = whole f x in
      let k = component_most X z Q W R.deep b (side_most (abs z) W N s (close (W * W) N l.2)) h.1 in
      let a : abs X ≤ 2 * W = omega arith in
      let d = div_rel f x w (abs X) (2 * L) h.0 l.0 (omega (arith, l.1)) (abs_within X) (omega (arith, mul-le-mul_right L a)) (fits_quotient L (overflow f) (pow_pos (low f)) R.wide) in
      (d.0, quotient_most (whole f (div f x w)) X L Q (2 ^ (prec f - 1)) W (omega arith) R.deep large (half_le f) k d.1)

  -- a share of at most 1 of a target of at most 23
  pub share : (x y : Float) → Number x → Number y → mag f x ≤ 2 ^ low f → mag f y ≤ 23 * 2 ^ low f → Ok f (mul f x y) × Within (whole f (mul f x y)) (24 * 2 ^ low f)
  unfolding mul whole
  share (fin s m e) (lib.Ieee.inf _) o u h k = elim u [ ]
  share (fin s m e) lib.Ieee.nan o u h k = elim u [ ]
  share (lib.Ieee.inf _) y o u h k = elim o [ ]
  share lib.Ieee.nan y o u h k = elim o [ ]
  share (fin s m e) (fin t n d) o u h k =
      let L = 2 ^ low f in
      let Q = 2 ^ prec f in
      let H = 2 ^ (prec f - 1) in
      let a = m * up e * (n * up d) in
      let c = down e * down d in
      let C : 0 < c = mul-pos (down_pos e) (down_pos d) in
      let i = cut_product (m * up e) (n * up d) L (mag f (fin s m e)) (mag f (fin t n d)) (down e) (down d) (mag_cut f (fin s m e)).1 (mag_cut f (fin t n d)).1 in
      let g = share_most (grid f a c) a c L Q H (mag f (fin s m e)) (mag f (fin t n d)) C R.deep large (half_le f) i (rounded_err (prec f) (a * L) c (prec_pos f) C).0 h k in
      let r = round_got f (unlike s t) a c (omega (arith, R.wide, pow_pos (low f))) in
      (r.0, subst (λ (z : Whole). Within z (24 * L)) (sym r.1) (signed_within (unlike s t) (grid f a c) (24 * L) g))

  -- from o by a share of the target along a component of the normal
  pub moved : (o s n : Float) → Coord f 8 o → Ok f s → Within (whole f s) (24 * 2 ^ low f) → Ok f n → 4 * abs (whole f n) ≤ 5 * 2 ^ low f
      → Ok f (add f o (mul f s n)) × Within (whole f (add f o (mul f s n))) (40 * 2 ^ low f)
  moved o s n h a b c d =
      let L = 2 ^ low f in
      let A = abs (whole f n) in
      let m = mul_got f s n (24 * L) A (31 * (q * L)) a c b (abs_within (whole f n)) (product_err f q R 30 (24 * L * A) (move_size L A d)) (product_fits f q R 30 (24 * L * A) (lit≤ tt) (move_size L A d)) in
      let i = move_most (whole f (mul f s n)) (whole f s ⊗ whole f n) L q A (pow_pos (low f)) (fine f q R) d m.1 (within_mul (whole f s) (whole f n) (24 * L) A b (abs_within (whole f n))) in
      let p = add_got f o (mul f s n) (8 * L) (31 * L) (39 * q) h.0 (ok_finite f (mul f s n) m.0) h.1 i (omega (arith, R.unit)) (omega (arith, R.wide, pow_pos (low f))) in
      (p.0, omega (arith, p.1, h.1, i, fine f q R, four f q R))
