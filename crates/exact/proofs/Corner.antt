-- The cosine of a corner, dot / (root of uu * root of vv), in floats:
use Rattle.std.specs.Prelude.{◌≡◌, ◌⊎◌, ◌+◌, ◌-◌, ◌*◌, ◌^◌, ◌<◌, ◌≤◌}
use Rattle.laws.specs.Kit.{ap, subst, inl, inr, ℕ, arith, mul-pos, mul-le-mul, mul-le-mul_left, mul-le-mul_right, le_of_mul-le-mul_right, lit≤, T, pow_pos, Float, le, mul, div}
use Rattle.std.proofs.Math.Nat.{mul-sub, mul-mul-mul_comm, le_of_mul-le-mul_left}
use Rattle.std.specs.Float.{Format}
use Rattle.std.specs.Float.Ieee.{prec, low}
use Rattle.exact.specs.Near.{Whole, Near, Within, abs, ◌⊖◌, ◌⊗◌, ◌⊙◌}
use Rattle.exact.proofs.Near.{within_mul, within_put, within_cut, abs_within, abs_le, abs_scale, abs_square, amgm, cauchy, root_le}
use Rattle.exact.specs.Parts.{billion, M, Parts}
use Rattle.exact.proofs.Parts.{MIs, MMany, billion_many, parts_mul, parts_trans}
use Rattle.exact.specs.Values.{whole, Ok}
use Rattle.exact.proofs.Values.{half_le, one_sided, mul_rel, div_rel}
use Rattle.exact.proofs.Order.{le_whole}
use Rattle.exact.proofs.Room.{Room, product_fits}
use Rattle.exact.specs.Root.{Root}
use Rattle.exact.specs.Dot.{dot, dotW, sizes}
use Rattle.exact.proofs.Dot.{dot_within, Comp, dot_near}
use Rattle.exact.specs.Corner.{norm}

-- ---- the numbers
many : 4 * (100 * 100) ≤ M
many = omega (arith, MMany)

MPos : 0 < M
MPos = omega (arith, MMany)

-- d, with one of its sides 0, is within 8 parts in Q of N / L
above_zero : (d : Whole) (L Q N E : ℕ) → 1000 * M ≤ Q → 0 < N → E ≤ 8 * N → (d.0 ≡ 0) ⊎ (d.1 ≡ 0) → Near (d ⊙ L ⊙ Q) ((N, 0) ⊙ Q) E
    → (d.1 ≡ 0) × Parts 1 (d.0 * L) N
above_zero d L Q N E h P e s n =
    let Q8 : 1000 * (N * M) ≤ N * Q = omega (arith, mul-le-mul_left N h) in
    let NM : 1000000 * N ≤ N * M = omega (arith, mul-le-mul_left N MMany) in
    let QP : 0 < Q = omega (arith, MMany) in
    elim s [
      | inl z ↦ absurd (omega (arith, n, ap (λ (x : ℕ). x * L * Q) z))
      | inr z ↦ (
        z,
        (
          le_of_mul-le-mul_left {k = Q} (omega (arith, mul-le-mul_left M n.0, ap (λ (x : ℕ). M * (x * L * Q)) z, mul-le-mul_left M e)) QP,
          le_of_mul-le-mul_left {k = Q} (omega (arith, mul-le-mul_left M n.1, ap (λ (x : ℕ). M * (x * L * Q)) z, mul-le-mul_left M e)) QP,
        ),
      )
    ]

-- at most twice, and at least half
pub parts_twice : (k a b : ℕ) → k ≤ 100 → Parts k a b → (a ≤ 2 * b) × (b ≤ 2 * a)
parts_twice k a b l h =
    let kb : k * b ≤ 100 * b = mul-le-mul_right b l in
    let mb : 1000000 * b ≤ M * b = mul-le-mul_right b MMany in
    (le_of_mul-le-mul_left {k = M} (omega arith) MPos, le_of_mul-le-mul_left {k = M} (omega arith) MPos)

-- a vector that is not too short, since its cross product with another is not too small
long : (L Q q a b c d : ℕ) → 0 < L → 1048576 * (Q * L) ≤ q * q → q * L ≤ a * d + b * c → c ≤ 16 * L → d ≤ 16 * L → 500 * (Q * L) ≤ a * a + b * b
long L Q q a b c d P v h x y =
    let k : q ≤ 16 * (a + b) = le_of_mul-le-mul_right (omega (arith, mul-le-mul_left a y, mul-le-mul_left b x)) P in
    omega (arith, mul-le-mul k k, amgm a b)

under_twice : (t y N : ℕ) → t * t ≤ N → N ≤ 2 * (y * y) → t ≤ 2 * y
under_twice t y N h k = root_le t (2 * y) (omega arith)

-- the quotient c of d and Y tests at most t
quotient : (c d : Whole) (L Q H Y A t : ℕ) → 0 < L → 1000 * M ≤ Q → H ≤ Q → 2 * M ≤ L → c.0 ≤ t + c.1 → A * L ≤ 6 * L * Y → Near (c ⊙ Y ⊙ Q) (d ⊙ L ⊙ Q) (A * L + H * Y)
    → M * (d.0 * L) ≤ (M * t + L) * Y + M * (d.1 * L)
quotient c d L Q H Y A t P h k l a e n =
    let x : d.0 * L * Q ≤ t * Y * Q + d.1 * L * Q + 6 * L * Y + H * Y = omega (arith, n, mul-le-mul_right (Y * Q) a) in
    let y : 12 * (M * (L * Y)) ≤ Q * (L * Y) = omega (arith, mul-le-mul_right (L * Y) h) in
    let z : 2 * (M * (H * Y)) ≤ Q * (L * Y) = omega (arith, mul-le-mul_left (2 * (M * Y)) k, mul-le-mul_right (Q * Y) l) in
    le_of_mul-le-mul_right {k = Q} (omega (arith, mul-le-mul_left M x)) (omega (arith, MMany))

difference : (a b c : ℕ) → M * a ≤ c + M * b → M * (a - b) ≤ c
difference a b c h = rw mul-sub (omega arith)

-- and back to the exact dot product m
exact_dot : (d m : Whole) (L Q Y S t : ℕ) → 1000 * M ≤ Q → 1000 * M ≤ Y → S ≤ 2 * (Y * L) → M * (d.0 * L) ≤ (M * t + L) * Y + M * (d.1 * L) → Near (d ⊙ L ⊙ Q) (m ⊙ Q) (7 * S + 500 * (Q * L))
    → M * m.0 ≤ (M * t + 2 * L) * Y + M * m.1
exact_dot d m L Q Y S t h k s a n =
    let u : 28 * (M * (Y * L)) ≤ Q * (Y * L) = omega (arith, mul-le-mul_right (Y * L) h) in
    let v : 1000 * (M * (Q * L)) ≤ Y * (Q * L) = omega (arith, mul-le-mul_right (Q * L) k) in
    le_of_mul-le-mul_right {k = Q} (omega (arith, mul-le-mul_left M n.1, mul-le-mul_left M s, mul-le-mul_right Q a)) (omega (arith, MMany))

-- the slack of 1e-9 holds all the parts, B being 10 ^ 9
slack : (B t L : ℕ) → 1 ≤ B → t ≤ L → (1000 * B * t + 2 * L) * (1000 * B * t + 2 * L) * (1000 * B + 19) ≤ 1000 * B * (1000000 * ((B * t + L) * (B * t + L)))
slack B t L P h = omega (arith, mul-le-mul_left (B * B * t) h, mul-le-mul_left (B * t * L) P, mul-le-mul_left (L * L) P)

cosine : (B D Y t L N : ℕ) → 1 ≤ B → t ≤ L → 1000 * B * D ≤ (1000 * B * t + 2 * L) * Y → 1000 * B * (Y * L * (Y * L)) ≤ (1000 * B + 19) * N
    → B * B * (L * L) * (D * D) ≤ (B * t + L) * (B * t + L) * N
cosine B D Y t L N P l h k =
    let E = 1000 * B * t + 2 * L in
    let a : 1000 * B * D * (1000 * B * D) * (L * L) ≤ E * E * (Y * L * (Y * L)) = omega (arith, mul-le-mul_right (L * L) (mul-le-mul h h)) in
    let b : E * E * (1000 * B * (Y * L * (Y * L))) ≤ E * E * ((1000 * B + 19) * N) = mul-le-mul_left (E * E) k in
    let c : E * E * (1000 * B + 19) * N ≤ 1000 * B * (1000000 * ((B * t + L) * (B * t + L))) * N = mul-le-mul_right N (slack B t L P l) in
    le_of_mul-le-mul_left {k = 1000 * B * 1000000} (chain (1000 * B) (1000 * B * D * (1000 * B * D) * (L * L)) (E * E) (Y * L * (Y * L)) ((1000 * B + 19) * N) (1000 * B * (1000000 * ((B * t + L) * (B * t + L))) * N)
    (B * B * (L * L) * (D * D)) ((B * t + L) * (B * t + L) * N) a b (omega (arith, c)) (omega arith) (omega arith)) (omega arith)
  where
    chain : (k a e y n c x z : ℕ) → a ≤ e * y → e * (k * y) ≤ e * n → e * n ≤ c → k * 1000000 * x ≡ k * a → c ≡ k * 1000000 * z → k * 1000000 * x ≤ k * 1000000 * z
    chain k a e y n c x z h i j p q = omega (arith, mul-le-mul_left k h)

short_root : (W N L : ℕ) → W * W ≤ 2 * N → N ≤ 512 * L * L → W ≤ 32 * L
short_root W N L h k = root_le W (32 * L) (omega arith)

-- q L ≤ 2 g, so the half unit H L is below g
large : (q L Q H g N : ℕ) → q * L * (q * L) ≤ N → N ≤ 2 * (g * g) → 1048576 * Q ≤ q → H ≤ Q → H * L ≤ g
large q L Q H g N h k r l =
    let x : q * L ≤ 2 * g = root_le (q * L) (2 * g) (omega arith) in
    omega (arith, mul-le-mul_right L r, mul-le-mul_right L l)

product_most : (U W L : ℕ) → U ≤ 32 * L → W ≤ 32 * L → U * W ≤ 1024 * L * L
product_most U W L h k = omega (arith, mul-le-mul h k)

flat_product : (u w : Whole) → u.1 ≡ 0 → w.1 ≡ 0 → Near (u ⊗ w) (u.0 * w.0, 0) 0
flat_product u w e e' = omega (arith, ap (λ (x : ℕ). x * w.0) e, ap (λ (x : ℕ). x * w.1) e, ap (λ (x : ℕ). u.0 * x) e')

near_flat : (x m n : Whole) (Q E : ℕ) → Near x (m ⊙ Q) E → Near m n 0 → Near x (n ⊙ Q) E
near_flat x m n Q E h k = omega (arith, mul-le-mul_right Q k.0, mul-le-mul_right Q k.1)

dot_size : (d m : Whole) (L Q S Y : ℕ) → 1000 * M ≤ Q → Near (d ⊙ L ⊙ Q) (m ⊙ Q) (7 * S + 500 * (Q * L)) → Within m S → S ≤ 2 * (Y * L) → 1000 * M ≤ Y → abs d * L ≤ 6 * L * Y
dot_size d m L Q S Y h n w s y =
    let Q7 : 7 ≤ Q = omega (arith, MMany) in
    let Y4 : 500 ≤ Y = omega (arith, MMany) in
    let i : Within (d ⊙ L) (2 * S + 500 * L) = within_cut (d ⊙ L) (2 * S + 500 * L) Q (omega arith) (omega (arith, n, within_put m S Q w, mul-le-mul_right S Q7)) in
    omega (arith, abs_scale d L (2 * S + 500 * L) i, mul-le-mul_right L Y4)

cross_size : (z0 z1 w0 w1 : Whole) → abs (z0 ⊗ w1 ⊖ z1 ⊗ w0) ≤ abs z0 * abs w1 + abs z1 * abs w0
cross_size z0 z1 w0 w1 =
    let a = within_mul z0 w1 (abs z0) (abs w1) (abs_within z0) (abs_within w1) in
    let b = within_mul z1 w0 (abs z1) (abs w0) (abs_within z1) (abs_within w0) in
    abs_le (z0 ⊗ w1 ⊖ z1 ⊗ w0) (abs z0 * abs w1 + abs z1 * abs w0) (omega arith)

pub norm_is : (z0 z1 : Whole) → Near (dotW z0 z1 z0 z1) (norm z0 z1, 0) 0
norm_is z0 z1 = omega (arith, abs_square z0, abs_square z1)

pub norm_small : (L a b : ℕ) → a ≤ 16 * L → b ≤ 16 * L → a * a + b * b ≤ 512 * L * L
norm_small L a b h k = omega (arith, mul-le-mul h h, mul-le-mul k k)

module _ (f : Format) (q : ℕ) (R : Room f q) where
  -- w is the length of a vector whose square is N
  abbrev pub Length : Float → ℕ → Type 0
  Length w N = Ok f w × ((whole f w).1 ≡ 0) × Parts 7 ((whole f w).0 * (whole f w).0) N

  pub length : (x0 x1 w : Float) (z0 z1 : Whole) → Comp f q R x0 z0 → Comp f q R x1 z1 → 500 * (2 ^ prec f * 2 ^ low f) ≤ norm z0 z1 → Root f (dot f x0 x1 x0 x1) w → Length w (norm z0 z1)
  length x0 x1 w z0 z1 h k l r =
      let L = 2 ^ low f in
      let Q = 2 ^ prec f in
      let N = norm z0 z1 in
      let d = whole f (dot f x0 x1 x0 x1) in
      let n = dot_near f q R x0 x1 x0 x1 z0 z1 z0 z1 h k h k in
      let E = 7 * N + 500 * (Q * L) in
      let a = above_zero d L Q N E R.fine (omega (arith, l, mul-pos (pow_pos (prec f)) (pow_pos (low f)))) (omega arith) (one_sided f (dot f x0 x1 x0 x1)) (near_flat (d ⊙ L ⊙ Q) (dotW z0 z1 z0 z1) (N, 0) Q E n.1 (norm_is z0 z1)) in
      (r.0, r.1, parts_trans 5 1 100 ((whole f w).0 * (whole f w).0) (d.0 * L) N (lit≤ tt) (lit≤ tt) many r.2 a.1)

  -- y is the product of two lengths
  denominator : (u w : Float) (A N : ℕ) → Length u A → Length w N → A ≤ 512 * 2 ^ low f * 2 ^ low f → N ≤ 512 * 2 ^ low f * 2 ^ low f → q * 2 ^ low f * (q * 2 ^ low f) ≤ A * N
      → Ok f (mul f u w) × ((whole f (mul f u w)).1 ≡ 0) × Parts 19 ((whole f (mul f u w)).0 * 2 ^ low f * ((whole f (mul f u w)).0 * 2 ^ low f)) (A * N)
  denominator u w A N h k m n far =
      let L = 2 ^ low f in
      let Q = 2 ^ prec f in
      let H = 2 ^ (prec f - 1) in
      let U = whole f u in
      let W = whole f w in
      let g = U.0 * W.0 in
      let y = whole f (mul f u w) in
      let e = flat_product U W h.1 k.1 in
      let r : Parts 15 (g * g) (A * N) = subst (λ (x : ℕ). Parts 15 x (A * N)) (mul-mul-mul_comm U.0 U.0 W.0 W.0) (parts_mul 7 7 100 (U.0 * U.0) A (W.0 * W.0) N (lit≤ tt) (lit≤ tt) many h.2 k.2) in
      let l = large q L Q H g (A * N) far (parts_twice 15 (g * g) (A * N) (lit≤ tt) r).1 R.rich (half_le f) in
      let p = mul_rel f u w g h.0 k.0 (omega (arith, e))
      (product_fits f q R 1024 g (lit≤ tt) (product_most U.0 W.0 L (short_root U.0 A L (parts_twice 7 (U.0 * U.0) A (lit≤ tt) h.2).0 m) (short_root W.0 N L (parts_twice 7 (W.0 * W.0) N (lit≤ tt) k.2).0 n))) in
      let a = above_zero y L Q g (g + H * L) R.fine (omega (arith, l, mul-pos (pow_pos (prec f - 1)) (pow_pos (low f)))) (omega (arith, l)) (one_sided f (mul f u w)) (near_flat (y ⊙ L ⊙ Q) (U ⊗ W) (g, 0) Q (g + H * L) p.1 e) in
      let s = parts_mul 1 1 100 (y.0 * L) g (y.0 * L) g (lit≤ tt) (lit≤ tt) many a.1 a.1 in
      (p.0, a.0, parts_trans 3 15 100 (y.0 * L * (y.0 * L)) (g * g) (A * N) (lit≤ tt) (lit≤ tt) many s r)

  -- what the float test t on the corner's cosine says of the exact one
  pub corner : (x0 x1 y0 y1 su sv : Float) (z0 z1 w0 w1 : Whole) → Comp f q R x0 z0 → Comp f q R x1 z1 → Comp f q R y0 w0 → Comp f q R y1 w1
      → Root f (dot f x0 x1 x0 x1) su → Root f (dot f y0 y1 y0 y1) sv → q * 2 ^ low f ≤ abs (z0 ⊗ w1 ⊖ z1 ⊗ w0)
      → Ok f (div f (dot f x0 x1 y0 y1) (mul f su sv))
      × ((t : Float) → Ok f t → (whole f t).0 ≤ 2 ^ low f → T (le (div f (dot f x0 x1 y0 y1) (mul f su sv)) t)
      → billion * billion * (2 ^ low f * 2 ^ low f) * (((dotW z0 z1 w0 w1).0 - (dotW z0 z1 w0 w1).1) * ((dotW z0 z1 w0 w1).0 - (dotW z0 z1 w0 w1).1))
      ≤ (billion * (whole f t).0 + 2 ^ low f) * (billion * (whole f t).0 + 2 ^ low f) * (norm z0 z1 * norm w0 w1))
  corner x0 x1 y0 y1 su sv z0 z1 w0 w1 a a' b b' r r' far =
      let L = 2 ^ low f in
      let Q = 2 ^ prec f in
      let H = 2 ^ (prec f - 1) in
      let A = norm z0 z1 in
      let N = norm w0 w1 in
      let m = dotW z0 z1 w0 w1 in
      let S = sizes z0 z1 w0 w1 in
      let C = abs z0 * abs w1 + abs z1 * abs w0 in
      let LP = pow_pos (low f) in
      let far' : q * L ≤ C = omega (arith, far, cross_size z0 z1 w0 w1) in
      let CN : C * C ≤ A * N = omega (arith, cauchy (abs z0) (abs z1) (abs w1) (abs w0)) in
      let u = length x0 x1 su z0 z1 a a' (long L Q q (abs z0) (abs z1) (abs w0) (abs w1) LP R.vast far' b.2 b'.2) r in
      let v = length y0 y1 sv w0 w1 b b' (long L Q q (abs w0) (abs w1) (abs z0) (abs z1) LP R.vast (omega arith) a.2 a'.2) r' in
      let e = denominator su sv A N u v (norm_small L (abs z0) (abs z1) a.2 a'.2) (norm_small L (abs w0) (abs w1) b.2 b'.2) (omega (arith, mul-le-mul far' far')) in
      let Y = (whole f (mul f su sv)).0 in
      let half = (parts_twice 19 (Y * L * (Y * L)) (A * N) (lit≤ tt) e.2).1 in
      let S2 : S ≤ 2 * (Y * L) = under_twice S (Y * L) (A * N) (cauchy (abs z0) (abs z1) (abs w0) (abs w1)) half in
      let C2 : C ≤ 2 * (Y * L) = under_twice C (Y * L) (A * N) CN half in
      let qY : q ≤ 2 * Y = le_of_mul-le-mul_right (omega arith) LP in
      let big : 1000 * M ≤ Y = omega (arith, R.rich, R.fine) in
      let wide : 2 * M ≤ L = omega (arith, R.unit, R.fine, mul-le-mul_left Q R.some) in
      let n = dot_near f q R x0 x1 y0 y1 z0 z1 w0 w1 a a' b b' in
      let d = whole f (dot f x0 x1 y0 y1) in
      let E : abs d * L ≤ 6 * L * Y = dot_size d m L Q S Y R.fine n.1 (dot_within z0 z1 w0 w1) S2 big in
      let c = div_rel f (dot f x0 x1 y0 y1) (mul f su sv) (abs d) (6 * L) n.0 e.0 (omega (arith, e.1, big, MMany)) (abs_within d) E (omega (arith, R.wide, LP)) in (
        c.0,
        λ t o small test.
            let k = le_whole f (div f (dot f x0 x1 y0 y1) (mul f su sv)) t c.0 o test in
            let p = quotient (whole f (div f (dot f x0 x1 y0 y1) (mul f su sv))) d L Q H Y (abs d) (whole f t).0 LP R.fine (half_le f) wide (omega (arith, k)) E c.1 in
            let g = difference m.0 m.1 ((M * (whole f t).0 + 2 * L) * Y) (exact_dot d m L Q Y S (whole f t).0 R.fine big S2 p n.1) in
            let one : 1 ≤ billion = omega (arith, billion_many) in
            cosine billion (m.0 - m.1) Y (whole f t).0 L (A * N) one small (subst (λ (x : ℕ). x * (m.0 - m.1) ≤ (x * (whole f t).0 + 2 * L) * Y) MIs g) (subst (λ (x : ℕ). x * (Y * L * (Y * L)) ≤ (x + 19) * (A * N)) MIs e.2.0),
      )
