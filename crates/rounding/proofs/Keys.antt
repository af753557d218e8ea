-- The bucket key of a coordinate c is `floor (c ⊘ b)`.
use Rattle.std.specs.Prelude.{◌≡◌, ◌&&◌, ◌+◌, ◌-◌, ◌*◌, ◌/◌, ◌<◌, ◌≤◌}
use Rattle.laws.specs.Kit.{refl, sym, ◌∙◌, ap, inl, inr, Bool, true, false, cond, true≢false, ℕ, zero, suc, arith, mul-pos, mul-le-mul_right, le_of_mul-le-mul_right, eqb, T, ℤ, pos, Float, binary64, nan, fin, inf, down, up, of_bits, round, lt, le, div}
use Rattle.std.proofs.Common.{zero-lt-suc, mul-one, div-lt_iff_lt-mul, ltb→lt, eqb→eq}
use Rattle.std.specs.Float.Ieee.{unlike}
use Rattle.std.specs.Float.Ieee.Fits.{up_pos, down_pos}
use Rattle.std.specs.Float.Ieee.Nearest.{div_mono}
use Rattle.definition.specs.Floats.{◌⊘◌, ◌≺◌, ◌≼◌, lesser, greater, finite, f64, 0·0}
use Rattle.definition.specs.Root.{floor}
use Rattle.definition.specs.Flips.{ranges_meet}
use Rattle.laws.specs.Bools.{of_T, to_T, refuted}
use Rattle.rounding.specs.Order.{AtMost}
use Rattle.rounding.proofs.Order.{le→at_most, through_le, lt_le_clash, le_or_lt, real_left, real_right, not_below_nan, lowest, highest, round_le, round_real}
use Rattle.rounding.specs.Keys.{cut}

-- ---- ≼ and ≺
-- ≼ is transitive: no NaN, infinities and both zeros included
pub le_trans : (x y z : Float) → (x ≼ y) ≡ true → (y ≼ z) ≡ true → (x ≼ z) ≡ true
unfolding ◌≼◌
le_trans x y z h k = of_T (le x z) (through_le x y z (to_T h) (to_T k))

-- where x is below y, y is not at most x
pub lt_not_le : (x y : Float) → (x ≺ y) ≡ true → (y ≼ x) ≡ false
unfolding ◌≺◌ ◌≼◌
lt_not_le x y h = refuted (le y x) (lt_le_clash x y (to_T h))

-- where x is at most y, y is not below x
pub le_not_lt : (x y : Float) → (x ≼ y) ≡ true → (y ≺ x) ≡ false
unfolding ◌≺◌ ◌≼◌
le_not_lt x y h = refuted (lt y x) (λ (l : T (lt y x)). lt_le_clash y x l (to_T h))

-- what is below is at most
pub lt_le : (x y : Float) → (x ≺ y) ≡ true → (x ≼ y) ≡ true
unfolding ◌≺◌ ◌≼◌ le
lt_le x y h = rw h

-- below one that is at most a third is below the third
pub lt_le_trans : (x y z : Float) → (x ≺ y) ≡ true → (y ≼ z) ≡ true → (x ≺ z) ≡ true
unfolding ◌≺◌ ◌≼◌
lt_le_trans x y z h k =
    elim (le_or_lt x z (real_left x y (to_T (lt_le x y h))) (real_right y z (to_T k))) [ inl l ↦ absurd (lt_le_clash x y (to_T h) (through_le y z x (to_T k) l)) | inr l ↦ of_T (lt x z) l ]

-- at most one that is below a third is below the third
pub le_lt_trans : (x y z : Float) → (x ≼ y) ≡ true → (y ≺ z) ≡ true → (x ≺ z) ≡ true
unfolding ◌≺◌ ◌≼◌
le_lt_trans x y z h k =
    elim (le_or_lt x z (real_left x y (to_T h)) (real_right y z (to_T (lt_le y z k)))) [ inl l ↦ absurd (lt_le_clash y z (to_T k) (through_le z x y l (to_T h))) | inr l ↦ of_T (lt x z) l ]

-- cut up, k / g ≤ n / d stay in order: with c for n / d cut up, n is at most c times d, so k is at most c times g
up_mono : (k g n d : ℕ) → 0 < g → 0 < d → k * d ≤ n * g → (k + (g - 1)) / g ≤ (n + (d - 1)) / d
up_mono k g n d G D h =
    let c = (n + (d - 1)) / d in
    let a : n + (d - 1) < (c + 1) * d = (div-lt_iff_lt-mul D).0 (more c) in
    let b : n ≤ c * d = omega arith in
    let i : k ≤ c * g = le_of_mul-le-mul_right (omega (arith, mul-le-mul_right g b)) D in
    let j : (k + (g - 1)) / g < c + 1 = (div-lt_iff_lt-mul G).1 (omega arith) in
    omega arith
  where
    more : (c : ℕ) → c < c + 1
    more c = omega arith

-- cut, two fractions stay in order, whatever their signs
cut_mono : (s : Bool) (n d : ℕ) (t : Bool) (k g : ℕ) → 0 < d → 0 < g → AtMost s (n * g) t (k * d) → AtMost s (cut s n d) t (cut t k g)
cut_mono false n d false k g D G h = omega (arith, div_mono (n + 0) d (k + 0) g D G (omega arith))
cut_mono true n d true k g D G h = omega (arith, up_mono k g n d G D (omega arith))
cut_mono true n d false k g D G h = omega arith
cut_mono false n d true k g D G h =
    let i : n ≤ 0 = le_of_mul-le-mul_right (omega arith) G in
    let j : k ≤ 0 = le_of_mul-le-mul_right (omega arith) D in
    let a : (n + 0) / d ≤ 0 / 1 = div_mono (n + 0) d 0 1 D (zero-lt-suc 0) (omega arith) in
    let b : (k + (g - 1)) / g ≤ 0 / 1 = up_mono k g 0 1 G (zero-lt-suc 0) (omega arith) in
    omega arith

-- by cases: an infinity is its own floor, and what is cut is rounded
floor_le : (x y : Float) → T (le x y) → T (le (floor x) (floor y))
unfolding le floor
floor_le (fin s m e) (inf true) h = elim h [ ]
floor_le (fin s m e) nan h = elim h [ ]
floor_le (inf true) nan h = elim h [ ]
floor_le (inf false) (fin t n d) h = elim h [ ]
floor_le (inf false) (inf true) h = elim h [ ]
floor_le (inf false) nan h = elim h [ ]
floor_le nan y h = elim h [ ]
floor_le (inf true) (inf true) h = tt
floor_le (inf true) (inf false) h = tt
floor_le (inf true) (fin t n d) h = lowest (floor (fin t n d)) (round_real binary64 t (cut t (n * up d) (down d)) 1)
floor_le (inf false) (inf false) h = tt
floor_le (fin s m e) (inf false) h = highest (floor (fin s m e)) (round_real binary64 s (cut s (m * up e) (down e)) 1)
floor_le (fin s m e) (fin t n d) h =
    let a = cut s (m * up e) (down e) in
    let b = cut t (n * up d) (down d) in
    let i : AtMost s a t b = cut_mono s (m * up e) (down e) t (n * up d) (down d) (down_pos e) (down_pos d) (le→at_most s m e t n d h) in
    round_le s a 1 t b 1 (zero-lt-suc 0) (zero-lt-suc 0) (rw (mul-one a, mul-one b) i)

-- the floors of two doubles are in their order
pub floor_mono : (x y : Float) → (x ≼ y) ≡ true → (floor x ≼ floor y) ≡ true
unfolding ◌≼◌
floor_mono x y h = of_T (le (floor x) (floor y)) (floor_le x y (to_T h))

-- ---- a quotient by a number above zero keeps the order
-- the quotient of two finite numbers, the second above zero
div_is : (s : Bool) (m : ℕ) (e : ℤ) (n : ℕ) (d : ℤ) → 0 < n → div binary64 (fin s m e) (fin false n d) ≡ round binary64 s (m * up e * down d) (n * up d * down e)
unfolding div
div_is s m e n d h =
    ap (λ (v : Bool). cond (eqb n 0) (cond (eqb m 0) nan (inf v)) (round binary64 v (m * up e * down d) (n * up d * down e))) (like s)
    ∙ go (eqb n 0) (λ (t : T (eqb n 0)). omega (arith, eqb→eq n 0 t))
  where
    like : (s : Bool) → unlike s false ≡ s
    like false = refl
    like true = refl

    go : (b : Bool) → (T b → ⊥) → cond b (cond (eqb m 0) nan (inf s)) (round binary64 s (m * up e * down d) (n * up d * down e)) ≡ round binary64 s (m * up e * down d) (n * up d * down e)
    go true f = absurd (f tt)
    go false f = refl

-- two fractions in order, each over p / q
over : (s : Bool) (a b : ℕ) (t : Bool) (c d p q : ℕ) → AtMost s (a * d) t (c * b) → AtMost s (a * q * (p * d)) t (c * q * (p * b))
over false a b false c d p q h = omega (arith, mul-le-mul_right (q * p) h)
over false a b true c d p q h = omega (arith, mul-le-mul_right (q * p) h)
over true a b false c d p q h = omega arith
over true a b true c d p q h = omega (arith, mul-le-mul_right (q * p) h)

-- any zero is at most any zero
zero_le_zero : (s t : Bool) → T (le (fin s 0 (pos 0)) (fin t 0 (pos 0)))
unfolding le
zero_le_zero false false = tt
zero_le_zero false true = tt
zero_le_zero true false = tt
zero_le_zero true true = tt

-- a finite number above zero has a significand above zero
num_pos : (n : ℕ) (d : ℤ) → T (lt 0·0 (fin false n d)) → 0 < n
unfolding lt 0·0 f64 of_bits
num_pos zero d h = omega (arith, ltb→lt (0 * 1 * down d) (0 * up d * 1) h)
num_pos (suc n) d h = zero-lt-suc n

-- two doubles in order, each over a finite number
over_finite : (x y : Float) (p : ℕ) (g : ℤ) → 0 < p → T (le x y) → T (le (x ⊘ fin false p g) (y ⊘ fin false p g))
unfolding le div ◌⊘◌
over_finite (fin s m e) (inf true) p g P h = elim h [ ]
over_finite (fin s m e) nan p g P h = elim h [ ]
over_finite (inf true) nan p g P h = elim h [ ]
over_finite (inf false) (fin t n d) p g P h = elim h [ ]
over_finite (inf false) (inf true) p g P h = elim h [ ]
over_finite (inf false) nan p g P h = elim h [ ]
over_finite nan y p g P h = elim h [ ]
over_finite (inf true) (inf true) p g P h = tt
over_finite (inf true) (inf false) p g P h = tt
over_finite (inf true) (fin t n d) p g P h = rw (div_is t n d p g P) (lowest (round binary64 t (n * up d * down g) (p * up g * down d)) (round_real binary64 t (n * up d * down g) (p * up g * down d)))
over_finite (inf false) (inf false) p g P h = tt
over_finite (fin s m e) (inf false) p g P h = rw (div_is s m e p g P) (highest (round binary64 s (m * up e * down g) (p * up g * down e)) (round_real binary64 s (m * up e * down g) (p * up g * down e)))
over_finite (fin s m e) (fin t n d) p g P h =
    let i : 0 < p * up g * down e = mul-pos (mul-pos P (up_pos g)) (down_pos e) in
    let j : 0 < p * up g * down d = mul-pos (mul-pos P (up_pos g)) (down_pos d) in
    rw (div_is s m e p g P, div_is t n d p g P)
    (round_le s (m * up e * down g) (p * up g * down e) t (n * up d * down g) (p * up g * down d) i j (over s (m * up e) (down e) t (n * up d) (down d) (p * up g) (down g) (le→at_most s m e t n d h)))

-- two finite numbers in order, each over a number that may be infinite
over_le : (b x y : Float) → T (lt 0·0 b) → T (finite x) → T (finite y) → T (le x y) → T (le (x ⊘ b) (y ⊘ b))
unfolding lt finite div ◌⊘◌ 0·0 f64 of_bits
over_le (fin true p g) x y B X Y h = elim B [ ]
over_le (inf true) x y B X Y h = elim B [ ]
over_le (inf false) (fin s m e) (inf _) B X Y h = elim Y [ ]
over_le (inf false) (fin s m e) nan B X Y h = elim Y [ ]
over_le (inf false) (inf _) y B X Y h = elim X [ ]
over_le (inf false) nan y B X Y h = elim X [ ]
over_le nan x y B X Y h = elim B [ ]
over_le (inf false) (fin s m e) (fin t n d) B X Y h = zero_le_zero (unlike s false) (unlike t false)
over_le (fin false p g) x y B X Y h = over_finite x y p g (num_pos p g B) h

-- ---- the key keeps the order
-- the keys of two finite coordinates are in their order; the bucket may be infinite
pub key_mono : (b x y : Float) → (0·0 ≺ b) ≡ true → T (finite x) → T (finite y) → (x ≼ y) ≡ true → (floor (x ⊘ b) ≼ floor (y ⊘ b)) ≡ true
unfolding ◌≺◌ ◌≼◌
key_mono b x y B X Y h = of_T (le (floor (x ⊘ b)) (floor (y ⊘ b))) (floor_le (x ⊘ b) (y ⊘ b) (over_le b x y (to_T B) X Y (to_T h)))

-- floors are not in the other order
order_clash : (x y : Float) → T (le x y) → T (lt (floor y) (floor x)) → ⊥
order_clash x y h l = lt_le_clash (floor y) (floor x) l (floor_le x y h)

-- keys are not in the other order
key_clash : (b x y : Float) → T (lt 0·0 b) → T (le x y) → T (lt (floor (y ⊘ b)) (floor (x ⊘ b))) → ⊥
unfolding lt le div floor ◌⊘◌ 0·0 f64 of_bits
key_clash (fin true p g) x y B h l = elim B [ ]
key_clash (inf true) x y B h l = elim B [ ]
key_clash (inf false) (fin s m e) nan B h l = elim h [ ]
key_clash (inf false) nan y B h l = elim h [ ]
key_clash nan x y B h l = elim B [ ]
key_clash (inf false) (inf s) y B h l = not_below_nan (floor (y ⊘ inf false)) l
key_clash (inf false) (fin s m e) (inf t) B h l = l
key_clash (inf false) (fin s m e) (fin t n d) B h l = order_clash (fin s m e ⊘ inf false) (fin t n d ⊘ inf false) (zero_le_zero (unlike s false) (unlike t false)) l
key_clash (fin false p g) x y B h l = order_clash (x ⊘ fin false p g) (y ⊘ fin false p g) (over_finite x y p g (num_pos p g B) h) l

-- of any two coordinates in order the first has no key above that of the second;
-- an infinity over an infinity is a NaN, and so is its key
pub key_not_above : (b x y : Float) → (0·0 ≺ b) ≡ true → (x ≼ y) ≡ true → (floor (y ⊘ b) ≺ floor (x ⊘ b)) ≡ false
unfolding ◌≺◌ ◌≼◌
key_not_above b x y B h = refuted (lt (floor (y ⊘ b)) (floor (x ⊘ b))) (key_clash b x y (to_T B) (to_T h))

-- ---- ranges on two sides of k
-- what holds of both holds of the one that a test picks
either : (P : Float → Type 0) (b : Bool) (x y : Float) → P x → P y → P (cond b y x)
either P true x y px py = py
either P false x y px py = px

-- what holds of both holds of the smaller one
of_lesser : (P : Float → Type 0) (x y : Float) → P x → P y → P (lesser x y)
unfolding lesser
of_lesser P x y px py = either P (y ≺ x) x y px py

-- what holds of both holds of the greater one
of_greater : (P : Float → Type 0) (x y : Float) → P x → P y → P (greater x y)
unfolding greater
of_greater P x y px py = either P (x ≺ y) x y px py

-- p and q lie above k, r and s do not; r and s may be NaNs
pub apart_low : (k p q r s : Float) → (k ≺ p) ≡ true → (k ≺ q) ≡ true → (k ≺ r) ≡ false → (k ≺ s) ≡ false → ranges_meet p q r s ≡ false
unfolding ranges_meet
apart_low k p q r s hp hq hr hs =
    let a = lesser p q in
    let b = greater r s in
    let i : (k ≺ a) ≡ true = of_lesser (λ x. (k ≺ x) ≡ true) p q hp hq in
    let j : (k ≺ b) ≡ false = of_greater (λ x. (k ≺ x) ≡ false) r s hr hs in
    let l : (a ≼ b) ≡ false = refuted (a ≼ b) (λ (t : T (a ≼ b)). true≢false (sym (lt_le_trans k a b i (of_T (a ≼ b) t)) ∙ j)) in
    rw l

-- p and q lie below k, r and s do not; r and s may be NaNs
pub apart_high : (k p q r s : Float) → (p ≺ k) ≡ true → (q ≺ k) ≡ true → (r ≺ k) ≡ false → (s ≺ k) ≡ false → ranges_meet p q r s ≡ false
unfolding ranges_meet
apart_high k p q r s hp hq hr hs =
    let a = lesser r s in
    let b = greater p q in
    let i : (b ≺ k) ≡ true = of_greater (λ x. (x ≺ k) ≡ true) p q hp hq in
    let j : (a ≺ k) ≡ false = of_lesser (λ x. (x ≺ k) ≡ false) r s hr hs in
    let l : (a ≼ b) ≡ false = refuted (a ≼ b) (λ (t : T (a ≼ b)). true≢false (sym (le_lt_trans a b k (of_T (a ≼ b) t) i) ∙ j)) in
    off (lesser p q ≼ greater r s) l
  where
    off : (a : Bool) {b : Bool} → b ≡ false → (a && b) ≡ false
    off true e = e
    off false e = refl

-- p and q lie above k, r and s up to k
pub meets_false_low : (k p q r s : Float) → (k ≺ p) ≡ true → (k ≺ q) ≡ true → (r ≼ k) ≡ true → (s ≼ k) ≡ true → ranges_meet p q r s ≡ false
meets_false_low k p q r s hp hq hr hs = apart_low k p q r s hp hq (le_not_lt r k hr) (le_not_lt s k hs)

-- p and q lie below k, r and s from k on
pub meets_false_high : (k p q r s : Float) → (p ≺ k) ≡ true → (q ≺ k) ≡ true → (k ≼ r) ≡ true → (k ≼ s) ≡ true → ranges_meet p q r s ≡ false
meets_false_high k p q r s hp hq hr hs = apart_high k p q r s hp hq (le_not_lt k r hr) (le_not_lt k s hs)
