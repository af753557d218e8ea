-- The order of doubles: that of signed fractions, with an infinity at each end and a NaN nowhere.
use Rattle.std.specs.Prelude.{◌≡◌, ◌⊎◌, ◌||◌, ◌+◌, ◌-◌, ◌*◌, ◌/◌, ◌^◌, ◌<◌, ◌≤◌}
use Rattle.laws.specs.Kit.{refl, sym, ◌∙◌, ap, subst, inl, inr, Bool, true, false, not, cond, ℕ, zero, suc, arith, dec_lt, mul-le-mul_right, le_of_mul-le-mul_right, eqb, ltb, T, ℤ, Float, binary64, nan, fin, inf, down, up, round, lt, le, neg}
use Rattle.std.specs.Bool.{beq}
use Rattle.std.proofs.Common.{zero-mul, zero-lt-suc, ltb→lt, lt→ltb, eqb→eq}
use Rattle.std.specs.Float.{Format}
use Rattle.std.specs.Float.Ieee.{prec, emax, low, size, odd, units, below, level, is_nan}
use Rattle.std.specs.Float.Ieee.Fits.{down_pos, and_l, and_r, and_i, eq→eqb, round_is}
use Rattle.std.specs.Float.Ieee.Nearest.{closest}
use Rattle.std.specs.Float.Ieee.Order.{drop, kept, round_mono}
use Rattle.laws.specs.Bools.{TOr, TLeft, TRight}
use Rattle.rounding.specs.Order.{AtMost, Under, less, plus}

-- ---- the tests of two finite doubles, by these numbers
-- from the test `below` to the numbers
below→under : (s : Bool) (a : ℕ) (t : Bool) (b : ℕ) → T (below s a t b) → Under s a t b
below→under false a false b h = omega (arith, ltb→lt a b h)
below→under false a true b h = absurd h
below→under true a false b h = omega (arith, ltb→lt 0 (a + b) h)
below→under true a true b h = omega (arith, ltb→lt b a h)

-- from the numbers to the test `below`
under→below : (s : Bool) (a : ℕ) (t : Bool) (b : ℕ) → Under s a t b → T (below s a t b)
under→below false a false b h = lt→ltb a b (omega arith)
under→below false a true b h = absurd (omega arith)
under→below true a false b h = lt→ltb 0 (a + b) (omega arith)
under→below true a true b h = lt→ltb b a (omega arith)

-- equal numbers pass the test
equal : (a b : ℕ) → a ≡ b → T (eqb a b)
equal a b e = eq→eqb e

-- from the test `level` to the numbers
level→same : (s : Bool) (a : ℕ) (t : Bool) (b : ℕ) → T (level s a t b) → AtMost s a t b
level→same s a t b h = go s t (eqb→eq a b (and_l (eqb a b) (beq s t || eqb a 0) h)) (and_r (eqb a b) (beq s t || eqb a 0) h)
  where
    go : (s t : Bool) → a ≡ b → T (beq s t || eqb a 0) → AtMost s a t b
    go false false e k = omega arith
    go true true e k = omega arith
    go false true e k = omega (arith, eqb→eq a 0 k)
    go true false e k = omega arith

-- from the numbers to the test `level`
same→level : (s : Bool) (a : ℕ) (t : Bool) (b : ℕ) → plus s a + less t b ≡ plus t b + less s a → T (level s a t b)
same→level false a false b h = and_i (eqb a b) true (equal a b (omega arith)) tt
same→level true a true b h = and_i (eqb a b) true (equal a b (omega arith)) tt
same→level false a true b h = and_i (eqb a b) (eqb a 0) (equal a b (omega arith)) (equal a 0 (omega arith))
same→level true a false b h = and_i (eqb a b) (eqb a 0) (equal a b (omega arith)) (equal a 0 (omega arith))

-- from `le` to the numbers
pub le→at_most : (s : Bool) (m : ℕ) (e : ℤ) (t : Bool) (n : ℕ) (d : ℤ) → T (le (fin s m e) (fin t n d)) → AtMost s (m * up e * down d) t (n * up d * down e)
unfolding le
le→at_most s m e t n d h =
    let a = m * up e * down d in
    let b = n * up d * down e in
    elim (TOr (below s a t b) (level s a t b) h) [ inl l ↦ omega (arith, below→under s a t b l) | inr l ↦ level→same s a t b l ]

-- from the numbers to `le`
pub at_most→le : (s : Bool) (m : ℕ) (e : ℤ) (t : Bool) (n : ℕ) (d : ℤ) → AtMost s (m * up e * down d) t (n * up d * down e) → T (le (fin s m e) (fin t n d))
unfolding le
at_most→le s m e t n d h =
    let a = m * up e * down d in
    let b = n * up d * down e in
    elim (dec_lt (plus s a + less t b) (plus t b + less s a)) [
      | yes l ↦ TLeft (below s a t b) (level s a t b) (under→below s a t b l)
      | no l ↦ TRight (below s a t b) (level s a t b) (same→level s a t b (omega arith))
    ]

-- ---- `le` is transitive
-- the two parts of a product
plus_mul : (s : Bool) (a q : ℕ) → plus s (a * q) ≡ plus s a * q
plus_mul false a q = refl
plus_mul true a q = sym (zero-mul q)

less_mul : (s : Bool) (a q : ℕ) → less s (a * q) ≡ less s a * q
less_mul false a q = sym (zero-mul q)
less_mul true a q = refl

-- three fractions, (x - x') / p ≤ (y - y') / q ≤ (z - z') / r
through_parts : (x x' p y y' q z z' r : ℕ) → 0 < q → x * q + y' * p ≤ y * p + x' * q → y * r + z' * q ≤ z * q + y' * r → x * r + z' * p ≤ z * p + x' * r
through_parts x x' p y y' q z z' r Q h k = le_of_mul-le-mul_right (omega (arith, mul-le-mul_right r h, mul-le-mul_right p k)) Q

-- three fractions with signs: ±a / p ≤ ±b / q ≤ ±c / r
through : (s : Bool) (a p : ℕ) (t : Bool) (b q : ℕ) (u : Bool) (c r : ℕ) → 0 < q → AtMost s (a * q) t (b * p) → AtMost t (b * r) u (c * q) → AtMost s (a * r) u (c * p)
through s a p t b q u c r Q h k =
    let i : plus s a * q + less t b * p ≤ plus t b * p + less s a * q = omega (arith, plus_mul s a q, less_mul t b p, plus_mul t b p, less_mul s a q) in
    let j : plus t b * r + less u c * q ≤ plus u c * q + less t b * r = omega (arith, plus_mul t b r, less_mul u c q, plus_mul u c q, less_mul t b r) in
    omega (arith, through_parts (plus s a) (less s a) p (plus t b) (less t b) q (plus u c) (less u c) r Q i j, plus_mul s a r, less_mul u c p, plus_mul u c p, less_mul s a r)

-- `le` is transitive
pub through_le : (x y z : Float) → T (le x y) → T (le y z) → T (le x z)
unfolding le
through_le (fin s m e) (fin t n d) (inf true) h k = elim k [ ]
through_le (fin s m e) (fin t n d) nan h k = elim k [ ]
through_le (fin s m e) (inf true) z h k = elim h [ ]
through_le (fin s m e) (inf false) (fin u i g) h k = elim k [ ]
through_le (fin s m e) (inf false) (inf true) h k = elim k [ ]
through_le (fin s m e) (inf false) nan h k = elim k [ ]
through_le (fin s m e) nan z h k = elim h [ ]
through_le (inf true) (fin t n d) nan h k = elim k [ ]
through_le (inf true) (inf t) nan h k = elim k [ ]
through_le (inf true) nan z h k = elim h [ ]
through_le (inf false) (fin t n d) z h k = elim h [ ]
through_le (inf false) (inf true) z h k = elim h [ ]
through_le (inf false) nan z h k = elim h [ ]
through_le nan y z h k = elim h [ ]
through_le (inf true) (inf t) (inf true) h k = tt
through_le (inf true) (inf t) (inf false) h k = tt
through_le (inf true) (inf t) (fin u i g) h k = tt
through_le (inf true) (fin t n d) (inf true) h k = tt
through_le (inf true) (fin t n d) (inf false) h k = tt
through_le (inf true) (fin t n d) (fin u i g) h k = tt
through_le (inf false) (inf false) z h k = k
through_le (fin s m e) (inf false) (inf false) h k = tt
through_le (fin s m e) (fin t n d) (inf false) h k = tt
through_le (fin s m e) (fin t n d) (fin u i g) h k =
    at_most→le s m e u i g (through s (m * up e) (down e) t (n * up d) (down d) u (i * up g) (down g) (down_pos d) (le→at_most s m e t n d h) (le→at_most t n d u i g k))

-- ---- `lt` and `le`
-- x below y, and y at most x: not both
pub lt_le_clash : (x y : Float) → T (lt x y) → T (le y x) → ⊥
unfolding lt le
lt_le_clash (fin s m e) (inf true) h k = elim h [ ]
lt_le_clash (fin s m e) nan h k = elim h [ ]
lt_le_clash (inf true) (inf true) h k = elim h [ ]
lt_le_clash (inf true) nan h k = elim h [ ]
lt_le_clash (inf false) (fin t n d) h k = elim h [ ]
lt_le_clash (inf false) nan h k = elim h [ ]
lt_le_clash nan y h k = elim h [ ]
lt_le_clash (inf true) (inf false) h k = k
lt_le_clash (inf true) (fin t n d) h k = k
lt_le_clash (inf false) (inf t) h k = h
lt_le_clash (fin s m e) (inf false) h k = k
lt_le_clash (fin s m e) (fin t n d) h k =
    omega (arith, below→under s (m * up e * down d) t (n * up d * down e) h, le→at_most t n d s m e k)

-- y at most x, or x below y, unless one is a NaN
pub le_or_lt : (x y : Float) → T (not (is_nan x)) → T (not (is_nan y)) → T (le y x) ⊎ T (lt x y)
unfolding le is_nan
le_or_lt (fin s m e) nan h k = elim k [ ]
le_or_lt (inf true) nan h k = elim k [ ]
le_or_lt (inf false) nan h k = elim k [ ]
le_or_lt nan y h k = elim h [ ]
le_or_lt (inf true) (inf true) h k = inl tt
le_or_lt (inf true) (inf false) h k = inr tt
le_or_lt (inf true) (fin t n d) h k = inr tt
le_or_lt (inf false) (inf true) h k = inl tt
le_or_lt (inf false) (inf false) h k = inl tt
le_or_lt (inf false) (fin t n d) h k = inl tt
le_or_lt (fin s m e) (inf true) h k = inl tt
le_or_lt (fin s m e) (inf false) h k = inr tt
le_or_lt (fin s m e) (fin t n d) h k =
    let a = m * up e * down d in
    let b = n * up d * down e in
    elim (dec_lt (plus s a + less t b) (plus t b + less s a)) [
      | yes l ↦ inr (under→below s a t b l)
      | no l ↦ inl (at_most→le t n d s m e (omega arith))
    ]

-- ---- no NaN
-- the first of two that pass `le` is no NaN
pub real_left : (x y : Float) → T (le x y) → T (not (is_nan x))
unfolding le is_nan
real_left nan y h = elim h [ ]
real_left (inf s) y h = tt
real_left (fin s m e) y h = tt

-- the second of two that pass `le` is no NaN
pub real_right : (x y : Float) → T (le x y) → T (not (is_nan y))
unfolding le is_nan
real_right (fin s m e) nan h = elim h [ ]
real_right (inf s) nan h = elim h [ ]
real_right nan y h = elim h [ ]
real_right (inf s) (inf t) h = tt
real_right (inf s) (fin t n d) h = tt
real_right (fin s m e) (inf t) h = tt
real_right (fin s m e) (fin t n d) h = tt

-- what is no NaN lies between the infinities
pub lowest : (x : Float) → T (not (is_nan x)) → T (le (inf true) x)
unfolding le is_nan
lowest nan h = elim h [ ]
lowest (inf true) h = tt
lowest (inf false) h = tt
lowest (fin s m e) h = tt

-- what is no NaN is not above plus infinity
pub highest : (x : Float) → T (not (is_nan x)) → T (le x (inf false))
unfolding le is_nan
highest nan h = elim h [ ]
highest (inf true) h = tt
highest (inf false) h = tt
highest (fin s m e) h = tt

-- nothing is below a NaN
pub not_below_nan : (x : Float) → T (lt x nan) → ⊥
unfolding lt
not_below_nan nan h = h
not_below_nan (inf s) h = h
not_below_nan (fin s m e) h = h

-- ---- `round` with a sign
-- a sign goes through `units`
units_neg : (f : Format) (q k : ℕ) → units f true q k ≡ neg (units f false q k)
unfolding units odd neg
units_neg f q k = go q (ltb (q * 2 ^ k) (2 ^ (low f + suc (emax f))))
  where
    go : (q : ℕ) (b : Bool) → cond b (odd (suc (prec f)) true q k (low f)) (inf true) ≡ neg (cond b (odd (suc (prec f)) false q k (low f)) (inf false))
    go zero true = refl
    go (suc q) true = refl
    go q false = refl

-- a sign goes through `round`
round_neg : (f : Format) (a b : ℕ) → round f true a b ≡ neg (round f false a b)
round_neg f a b =
    let n = a * 2 ^ low f in
    round_is f true a b ∙ units_neg f (kept (prec f) n b) (drop (prec f) n b) ∙ sym (ap neg (round_is f false a b))

-- both signs turned, the order turns
turned : (s : Bool) (a : ℕ) (t : Bool) (b : ℕ) → AtMost s a t b → AtMost (not t) b (not s) a
turned false a false b h = omega arith
turned false a true b h = omega arith
turned true a false b h = omega arith
turned true a true b h = omega arith

-- with both signs turned, the order of doubles turns
le_neg : (x y : Float) → T (le x y) → T (le (neg y) (neg x))
unfolding le neg
le_neg (fin s m e) (inf true) h = elim h [ ]
le_neg (fin s m e) nan h = elim h [ ]
le_neg (inf true) nan h = elim h [ ]
le_neg (inf false) (fin t n d) h = elim h [ ]
le_neg (inf false) (inf true) h = elim h [ ]
le_neg (inf false) nan h = elim h [ ]
le_neg nan y h = elim h [ ]
le_neg (inf true) (inf true) h = tt
le_neg (inf true) (inf false) h = tt
le_neg (inf true) (fin t n d) h = tt
le_neg (inf false) (inf false) h = tt
le_neg (fin s m e) (inf false) h = tt
le_neg (fin s m e) (fin t n d) h = at_most→le (not t) n d (not s) m e (turned s (m * up e * down d) t (n * up d * down e) (le→at_most s m e t n d h))

-- two negative fractions in order
round_anti : (a b c d : ℕ) → 0 < b → 0 < d → c * b ≤ a * d → T (le (round binary64 true a b) (round binary64 true c d))
round_anti a b c d B D h =
    subst (λ (x : Float). T (le x (round binary64 true c d))) (sym (round_neg binary64 a b))
    (subst (λ (y : Float). T (le (neg (round binary64 false a b)) y)) (sym (round_neg binary64 c d))
    (le_neg (round binary64 false c d) (round binary64 false a b) (round_mono binary64 c d a b D B h)))

-- the two zeros are equal
zeros : T (le (round binary64 false 0 1) (round binary64 true 0 1)) × T (le (round binary64 true 0 1) (round binary64 false 0 1))
unfolding le round
zeros = (tt, tt)

-- two fractions in order are so when they are rounded
pub round_le : (s : Bool) (a b : ℕ) (t : Bool) (c d : ℕ) → 0 < b → 0 < d → AtMost s (a * d) t (c * b) → T (le (round binary64 s a b) (round binary64 t c d))
round_le false a b false c d B D h = round_mono binary64 a b c d B D (omega arith)
round_le true a b true c d B D h = round_anti a b c d B D (omega arith)
round_le true a b false c d B D h =
    through_le (round binary64 true a b) (round binary64 true 0 1) (round binary64 false c d) (round_anti a b 0 1 B (zero-lt-suc 0) (omega arith))
    (through_le (round binary64 true 0 1) (round binary64 false 0 1) (round binary64 false c d) zeros.1 (round_mono binary64 0 1 c d (zero-lt-suc 0) D (omega arith)))
round_le false a b true c d B D h =
    let i : a ≤ 0 = le_of_mul-le-mul_right (omega arith) D in
    let j : c ≤ 0 = le_of_mul-le-mul_right (omega arith) B in
    through_le (round binary64 false a b) (round binary64 false 0 1) (round binary64 true c d) (round_mono binary64 a b 0 1 B (zero-lt-suc 0) (omega arith))
    (through_le (round binary64 false 0 1) (round binary64 true 0 1) (round binary64 true c d) zeros.0 (round_anti 0 1 c d (zero-lt-suc 0) D (omega arith)))

-- what is rounded is no NaN
pub round_real : (f : Format) (s : Bool) (a b : ℕ) → T (not (is_nan (round f s a b)))
unfolding round units odd is_nan
round_real f s a b =
    let n = a * 2 ^ low f in
    let k = size (n / b) - prec f in
    let q = closest n (b * 2 ^ k) in
    go q k (ltb (q * 2 ^ k) (2 ^ (low f + suc (emax f))))
  where
    go : (q k : ℕ) (b : Bool) → T (not (is_nan (cond b (odd (suc (prec f)) s q k (low f)) (inf s))))
    go zero k true = tt
    go (suc q) k true = tt
    go q k false = tt
