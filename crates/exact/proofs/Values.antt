-- A finite float as a whole number of its format's smallest values, 2 ^ -low each,
use Rattle.std.specs.Prelude.{◌≡◌, ◌⊎◌, ◌&&◌, ◌+◌, ◌-◌, ◌*◌, ◌/◌, ◌%◌, ◌^◌, ◌<◌, ◌≤◌}
use Rattle.laws.specs.Kit.{refl, sym, ◌∙◌, ap, ap₂, subst, inl, inr, Bool, true, false, cond, ℕ, zero, suc, arith, mul-pos, mul-le-mul_right, le_of_mul-le-mul_right, eqb, ltb, leb, T, pow_pos, pow-add, pow_mono, ℤ, pos, negsuc, Float, nan, fin, inf, down, up, fits, round, le, mul, div}
use Rattle.std.proofs.Common.{lt_of_not-le, lt_of_le_of_lt, not-le_of_lt, le_of_suc-le-suc, lt_of_mul-lt-mul_right, mul_assoc, mul-one, zero-mul, mul-div_cancel, leb→le, eqb→eq}
use Rattle.std.proofs.Math.Nat.{le_of_mul-le-mul_left}
use Rattle.std.proofs.Math.Pow.{pow-lt}
use Rattle.std.specs.Float.{Format}
use Rattle.std.specs.Float.Ieee.{prec, emax, low, unlike}
use Rattle.std.specs.Float.Ieee.Digits.{back}
use Rattle.std.specs.Float.Ieee.Fits.{two, two-le_pos, down_pos, round_is, round-fits, and_l, and_r}
use Rattle.std.specs.Float.Ieee.Exact.{HasValue, units_val}
use Rattle.std.specs.Float.Ieee.Order.{drop, kept}
use Rattle.std.specs.Float.Ieee.Scale.{grid, overflow, finite}
use Rattle.std.specs.Float.Ieee.Positive.{num, den, first_pos}
use Rattle.exact.specs.Near.{Whole, Near, Within, Above, ◌⊗◌, ◌⊙◌}
use Rattle.exact.proofs.Near.{near_cut, near_weaken, within_mul}
use Rattle.exact.specs.Round.{Close}
use Rattle.exact.proofs.Round.{rounded_err}
use Rattle.exact.specs.Values.{Ok, mag, sign, signed, whole}

pub signed_within : (s : Bool) (a B : ℕ) → a ≤ B → Within (signed s a) B
signed_within false a B h = omega arith
signed_within true a B h = omega arith

pub ok : (f : Format) (x : Float) → T (fits f x) → T (finite x) → Ok f x
ok f (inf _) h k = elim k [ ]
ok f nan h k = elim k [ ]
ok f (fin s m e) h k = h

pub ok_finite : (f : Format) (x : Float) → Ok f x → T (finite x)
ok_finite f (inf _) h = elim h [ ]
ok_finite f nan h = elim h [ ]
ok_finite f (fin s m e) h = tt

-- ---- the value of a float, in units
value→whole : (f : Format) (x : Float) (s : Bool) (a : ℕ) → HasValue x s a (2 ^ low f) → whole f x ≡ signed s a
unfolding whole
value→whole f (inf _) s a h = elim h [ ]
value→whole f nan s a h = elim h [ ]
value→whole f (fin t m e) s a h = λ i. signed (h.0 i) ((ap (λ (z : ℕ). z / down e) h.1 ∙ mul-div_cancel a (down_pos e)) i)

value→finite : (x : Float) (s : Bool) (a c : ℕ) → HasValue x s a c → T (finite x)
value→finite (inf _) s a c h = elim h [ ]
value→finite nan s a c h = elim h [ ]
value→finite (fin t m e) s a c h = tt

exact : (n d w : ℕ) → 0 < d → n ≡ w * d → n ≡ n / d * d
exact n d w D e = e ∙ ap (λ (z : ℕ). z * d) (sym (ap (λ (z : ℕ). z / d) e ∙ mul-div_cancel w D))

down_divides : (e : ℤ) (l : ℕ) → down e ≤ 2 ^ l → (r : ℕ) × (2 ^ l ≡ r * down e)
down_divides (pos k) l h = (2 ^ l, sym (mul-one (2 ^ l)))
down_divides (negsuc k) l h =
    let g : suc k ≤ l = le_of_suc-le-suc (lt_of_not-le (λ (g : suc l ≤ suc k). not-le_of_lt (pow-lt g) h)) in
    (2 ^ (l - suc k), ap (λ (x : ℕ). 2 ^ x) (sym (back l (suc k) g)) ∙ pow-add 2 (l - suc k) (suc k))

-- a value that is not zero has no digit below the format's smallest value
pub down_bound : (f : Format) (s : Bool) (m : ℕ) (e : ℤ) → Ok f (fin s (suc m) e) → down e ≤ 2 ^ low f
unfolding fits
down_bound f s m e o =
    let a = eqb (suc m % 2) 1 && ltb (suc m) (2 ^ prec f) in
    let b = leb (down e) (2 ^ low f) in
    leb→le (down e) (2 ^ low f) (and_r a b (and_l (a && b) (ltb (suc m * up e) (2 ^ suc (emax f) * down e)) o))

pub mag_is : (f : Format) (x : Float) → Ok f x → num x * 2 ^ low f ≡ mag f x * den x
mag_is f (inf _) o = elim o [ ]
mag_is f nan o = elim o [ ]
mag_is f (fin s zero e) o = exact (zero * up e * 2 ^ low f) (down e) 0 (down_pos e) (simp zero-mul)
mag_is f (fin s (suc m) e) o =
    let d = down_divides e (low f) (down_bound f s m e o) in
    exact (suc m * up e * 2 ^ low f) (down e) (suc m * up e * d.0) (down_pos e) (ap (λ (z : ℕ). suc m * up e * z) d.1 ∙ sym (mul_assoc (suc m * up e) d.0 (down e)))

pub one_sided : (f : Format) (x : Float) → ((whole f x).0 ≡ 0) ⊎ ((whole f x).1 ≡ 0)
unfolding whole
one_sided f x = go (sign x)
  where
    go : (s : Bool) → ((signed s (mag f x)).0 ≡ 0) ⊎ ((signed s (mag f x)).1 ≡ 0)
    go false = inr refl
    go true = inl refl

-- ---- `round`, whose result in units is `grid`
pub round_got : (f : Format) (s : Bool) (a c : ℕ) → grid f a c < overflow f → Ok f (round f s a c) × (whole f (round f s a c) ≡ signed s (grid f a c))
round_got f s a c h =
    let v : HasValue (round f s a c) s (grid f a c) (2 ^ low f) = subst (λ (z : Float). HasValue z s (grid f a c) (2 ^ low f)) (sym (round_is f s a c)) (units_val f s (kept (prec f) (a * 2 ^ low f) c) (drop (prec f) (a * 2 ^ low f) c) h) in
    (ok f (round f s a c) (round-fits f s a c) (value→finite (round f s a c) s (grid f a c) (2 ^ low f) v), value→whole f (round f s a c) s (grid f a c) v)

pub prec_pos : (f : Format) → 0 < prec f
prec_pos f = two-le_pos (prec f) (two f)

-- x and y over one denominator
pub widen : (a L X d c : ℕ) → a * L ≡ X * d → a * c * L ≡ X * (d * c)
widen a L X d c h = omega (arith, ap (λ (z : ℕ). z * c) h)

pub widen' : (a L X d c : ℕ) → a * L ≡ X * d → a * c * L ≡ X * (c * d)
widen' a L X d c h = omega (arith, ap (λ (z : ℕ). z * c) h)

-- ---- mul and div: one part in 2 ^ prec, and half a unit of the smallest value
-- L g / c is near W / c, each times c
mul_close : (Q H L c g a W : ℕ) → 0 < c → a * L ≡ W * c → Close Q (g * c) a (a + H * c) → Close Q (g * L) W (W + H * L)
mul_close Q H L c g a W C e k =
    let q = ap (λ (z : ℕ). Q * z) e in
    (le_of_mul-le-mul_right (omega (arith, mul-le-mul_right L k.0)) C, le_of_mul-le-mul_right (omega (arith, mul-le-mul_right L k.1)) C)

at_most : (Q H g W N : ℕ) → 0 < Q → H ≤ Q → Q * g ≤ Q * W + (W + H * N) → g ≤ 2 * W + N
at_most Q H g W N P l h = le_of_mul-le-mul_left (omega (arith, mul-le-mul_right W P, mul-le-mul_right N l)) P

pub half_le : (f : Format) → 2 ^ (prec f - 1) ≤ 2 ^ prec f
half_le f = pow_mono (omega arith)

both : (a b L X Y d c : ℕ) → a * L ≡ X * d → b * L ≡ Y * c → a * b * L * L ≡ X * Y * (d * c)
both a b L X Y d c h k = omega (arith, ap₂ (λ (x y : ℕ). x * y) h k)

product_mag : (s t : Bool) (X Y B : ℕ) → Within (signed s X ⊗ signed t Y) B → X * Y ≤ B
product_mag false false X Y B h = omega arith
product_mag false true X Y B h = omega arith
product_mag true false X Y B h = omega arith
product_mag true true X Y B h = omega arith

signed_mul : (s t : Bool) (Q g X Y L B N : ℕ) → Close Q (g * L) (X * Y) (X * Y + N) → X * Y ≤ B → Near (signed (unlike s t) g ⊙ L ⊙ Q) (signed s X ⊗ signed t Y ⊙ Q) (B + N)
signed_mul false false Q g X Y L B N h k = omega arith
signed_mul false true Q g X Y L B N h k = omega arith
signed_mul true false Q g X Y L B N h k = omega arith
signed_mul true true Q g X Y L B N h k = omega arith

pub mul_rel : (f : Format) (x y : Float) (B : ℕ) → Ok f x → Ok f y → Within (whole f x ⊗ whole f y) B → 2 * B + 2 ^ low f < overflow f * 2 ^ low f
    → Ok f (mul f x y) × Near (whole f (mul f x y) ⊙ 2 ^ low f ⊙ 2 ^ prec f) (whole f x ⊗ whole f y ⊙ 2 ^ prec f) (B + 2 ^ (prec f - 1) * 2 ^ low f)
unfolding mul whole
mul_rel f (fin s m e) (inf _) B o u h small = elim u [ ]
mul_rel f (fin s m e) nan B o u h small = elim u [ ]
mul_rel f (inf _) y B o u h small = elim o [ ]
mul_rel f nan y B o u h small = elim o [ ]
mul_rel f (fin s m e) (fin t n d) B o u h small =
    let L = 2 ^ low f in
    let Q = 2 ^ prec f in
    let H = 2 ^ (prec f - 1) in
    let X = mag f (fin s m e) in
    let Y = mag f (fin t n d) in
    let a = m * up e * (n * up d) in
    let c = down e * down d in
    let xy = product_mag s t X Y B h in
    let C : 0 < c = mul-pos (down_pos e) (down_pos d) in
    let b = mul_close Q H L c (grid f a c) (a * L) (X * Y) C (both (m * up e) (n * up d) L X Y (down e) (down d) (mag_is f (fin s m e) o) (mag_is f (fin t n d) u)) (rounded_err (prec f) (a * L) c (prec_pos f) C) in
    let g = round_got f (unlike s t) a c (lt_of_mul-lt-mul_right L (omega (arith, at_most Q H (grid f a c * L) (X * Y) L (pow_pos (prec f)) (half_le f) b.0))) in
    (g.0, subst (λ (x : Whole). Near (x ⊙ L ⊙ Q) (signed s X ⊗ signed t Y ⊙ Q) (B + H * L)) (sym g.1) (signed_mul s t Q (grid f a c) X Y L B (H * L) b xy))

pub mul_got : (f : Format) (x y : Float) (A B E : ℕ) → Ok f x → Ok f y → Within (whole f x) A → Within (whole f y) B → A * B + 2 ^ (prec f - 1) * 2 ^ low f ≤ 2 ^ prec f * E → 2 * (A * B) + 2 ^ low f < overflow f * 2 ^ low f
    → Ok f (mul f x y) × Near (whole f (mul f x y) ⊙ 2 ^ low f) (whole f x ⊗ whole f y) E
mul_got f x y A B E o u h k le small =
    let Q = 2 ^ prec f in
    let r = whole f (mul f x y) ⊙ 2 ^ low f in
    let z = whole f x ⊗ whole f y in
    let p = mul_rel f x y (A * B) o u (within_mul (whole f x) (whole f y) A B h k) small in
    (p.0, near_cut r z E Q (pow_pos (prec f)) (near_weaken (r ⊙ Q) (z ⊙ Q) (A * B + 2 ^ (prec f - 1) * 2 ^ low f) (E * Q) (omega arith) p.1))

-- g / 1 is near X L / Y, by a divisor above zero
div_close : (Q H L D c g a X Y : ℕ) → 0 < D → a * L ≡ X * D → c * L ≡ Y * D → Close Q (g * c) (a * L) (a * L + H * c) → Close Q (g * Y) (X * L) (X * L + H * Y)
div_close Q H L D c g a X Y P p q k =
    let x = ap (λ (z : ℕ). Q * (z * L)) p in
    let x' = ap (λ (z : ℕ). z * L) p in
    let y = ap (λ (z : ℕ). Q * (g * z)) q in
    let y' = ap (λ (z : ℕ). H * z) q in
    (le_of_mul-le-mul_right (omega (arith, mul-le-mul_right L k.0)) P, le_of_mul-le-mul_right (omega (arith, mul-le-mul_right L k.1)) P)

within_mag : (s : Bool) (X A : ℕ) → Within (signed s X) A → X ≤ A
within_mag false X A h = omega arith
within_mag true X A h = omega arith

signed_div : (s : Bool) (Q g X Y L A N : ℕ) → Close Q (g * Y) (X * L) (X * L + N) → Within (signed s X) A → Near (signed s g ⊙ Y ⊙ Q) (signed s X ⊙ L ⊙ Q) (A * L + N)
signed_div false Q g X Y L A N h k = omega (arith, mul-le-mul_right L k.0)
signed_div true Q g X Y L A N h k = omega (arith, mul-le-mul_right L k.1)

div_is : (f : Format) (s : Bool) (m : ℕ) (e : ℤ) (n : ℕ) (d : ℤ) → 0 < n → div f (fin s m e) (fin false n d) ≡ round f s (m * up e * down d) (n * up d * down e)
unfolding div
div_is f s m e n d N = go (eqb n 0) (eqb→eq n 0) s
  where
    go : (l : Bool) → (T l → n ≡ 0) → (s : Bool) → cond l (cond (eqb m 0) nan (inf (unlike s false))) (round f (unlike s false) (m * up e * down d) (n * up d * down e)) ≡ round f s (m * up e * down d) (n * up d * down e)
    go true z s = absurd (omega (arith, z tt))
    go false z false = refl
    go false z true = refl

-- A bounds |x|, and G the quotient
pub div_rel : (f : Format) (x y : Float) (A G : ℕ) → Ok f x → Ok f y → Above (whole f y) → Within (whole f x) A → A * 2 ^ low f ≤ G * (whole f y).0 → 2 * G + 1 < overflow f
    → Ok f (div f x y) × Near (whole f (div f x y) ⊙ (whole f y).0 ⊙ 2 ^ prec f) (whole f x ⊙ 2 ^ low f ⊙ 2 ^ prec f) (A * 2 ^ low f + 2 ^ (prec f - 1) * (whole f y).0)
unfolding whole
div_rel f (fin s m e) (inf _) A G o u p h k small = elim u [ ]
div_rel f (fin s m e) nan A G o u p h k small = elim u [ ]
div_rel f (inf _) y A G o u p h k small = elim o [ ]
div_rel f nan y A G o u p h k small = elim o [ ]
div_rel f (fin s m e) (fin true n d) A G o u p h k small = absurd (omega arith)
div_rel f (fin s m e) (fin false n d) A G o u p h k small =
    let L = 2 ^ low f in
    let Q = 2 ^ prec f in
    let H = 2 ^ (prec f - 1) in
    let X = mag f (fin s m e) in
    let Y = mag f (fin false n d) in
    let a = m * up e * down d in
    let c = n * up d * down e in
    let D = down e * down d in
    let DP : 0 < D = mul-pos (down_pos e) (down_pos d) in
    let i : a * L ≡ X * D = widen (m * up e) L X (down e) (down d) (mag_is f (fin s m e) o) in
    let j : c * L ≡ Y * D = widen' (n * up d) L Y (down d) (down e) (mag_is f (fin false n d) u) in
    let C : 0 < c = first_pos c L (subst (λ (w : ℕ). 0 < w) (sym j) (mul-pos p DP)) in
    let b = div_close Q H L D c (grid f a c) a X Y DP i j (rounded_err (prec f) (a * L) c (prec_pos f) C) in
    let x : X * L ≤ A * L = mul-le-mul_right L (within_mag s X A h) in
    let t : grid f a c * Y ≤ 2 * (X * L) + Y = at_most Q H (grid f a c * Y) (X * L) Y (pow_pos (prec f)) (half_le f) b.0 in
    let g = round_got f s a c (lt_of_le_of_lt (le_of_mul-le-mul_right (omega arith) p) small) in
    rw (div_is f s m e n d (first_pos n (up d) (first_pos (n * up d) (down e) C)))
    (g.0, subst (λ (w : Whole). Near (w ⊙ Y ⊙ Q) (signed s X ⊙ L ⊙ Q) (A * L + H * Y)) (sym g.1) (signed_div s Q (grid f a c) X Y L A (H * Y) b h))
