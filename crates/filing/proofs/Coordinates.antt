-- Coordinates compared as numbers: floats that are neither infinite nor a NaN are totally ordered,
use Rattle.std.specs.Ordering.{ordering_reverse}
use Rattle.std.specs.Prelude.{◌≡◌, ◌&&◌, ◌+◌, ◌*◌, ◌<◌}
use Rattle.laws.specs.Kit.{refl, sym, ◌∙◌, ap, Bool, true, false, ℕ, arith, ℕ_discrete, eqb, ltb, eq-eqb, ne_eqb, eqb-true, le-ltb, Float, nan, fin, inf, down, up, eq, lt}
use Rattle.std.specs.Float.Ieee.{below, level}
use Rattle.std.specs.Float.Ieee.Fits.{down_pos}
use Rattle.definition.specs.Floats.{◌≺◌}
use Rattle.laws.specs.Numbers.{eqb_swap}
use Rattle.std.specs.declared.cmp.Ordering.TheVariants.{Equal}
use Rattle.filing.specs.Filing.{order_numbers, order_floats}
use Rattle.filing.specs.Totals.{Total}
use Rattle.filing.proofs.Totals.{equal_is, numbers_back, numbers_same, weighed}
use Rattle.filing.specs.Coordinates.{Numeric}

-- a number with a sign is its upper part less its lower part
upper : Bool → ℕ → ℕ
upper false n = n
upper true n = 0

lower : Bool → ℕ → ℕ
lower false n = 0
lower true n = n

-- a float is (above - under) / part
above : Float → ℕ
above nan = 0
above (inf s) = 0
above (fin s m e) = upper s (m * up e)

under : Float → ℕ
under nan = 0
under (inf s) = 0
under (fin s m e) = lower s (m * up e)

part : Float → ℕ
part nan = 1
part (inf s) = 1
part (fin s m e) = down e

-- x's side of the comparison with y, over both parts
side : Float → Float → ℕ
side x y = above x * part y + under y * part x

part_pos : (x : Float) → 0 < part x
unfolding part
part_pos nan = omega arith
part_pos (inf s) = omega arith
part_pos (fin s m e) = down_pos e

two_sides : {X : Type 0} (f : ℕ → ℕ → X) (a b c d : ℕ) → a ≡ c → b ≡ d → f a b ≡ f c d
two_sides f a b c d p q = λ i. f (p i) (q i)

below_side : (s t : Bool) (a b p q : ℕ) → below s (a * q) t (b * p) ≡ ltb (upper s a * q + lower t b * p) (upper t b * p + lower s a * q)
unfolding upper lower
below_side false false a b p q = two_sides ltb (a * q) (b * p) (a * q + 0 * p) (b * p + 0 * q) (omega arith) (omega arith)
below_side true false a b p q = two_sides ltb 0 (a * q + b * p) (0 * q + 0 * p) (b * p + a * q) (omega arith) (omega arith)
below_side false true a b p q = sym (le-ltb (a * q + b * p) (0 * p + 0 * q) (omega arith))
below_side true true a b p q = two_sides ltb (b * p) (a * q) (0 * q + b * p) (0 * p + a * q) (omega arith) (omega arith)

lt_side : (x y : Float) → Numeric x → Numeric y → lt x y ≡ ltb (side x y) (side y x)
unfolding lt side above under part
lt_side (fin s m e) (inf _) h k = elim k [ ]
lt_side (fin s m e) nan h k = elim k [ ]
lt_side (inf _) y h k = elim h [ ]
lt_side nan y h k = elim h [ ]
lt_side (fin s m e) (fin t n d) h k = below_side s t (m * up e) (n * up d) (down e) (down d)

by_side : (x y : Float) → Numeric x → Numeric y → order_floats x y ≡ order_numbers (side x y) (side y x)
unfolding order_floats order_numbers ◌≺◌
by_side x y h k = rw (lt_side x y h k, lt_side y x k h)

side_sums : (a p u b q v c r w : ℕ) → (a * q + v * p) * r + (b * r + w * q) * p + (c * p + u * r) * q ≡ (b * p + u * q) * r + (c * q + v * r) * p + (a * r + w * p) * q
side_sums a p u b q v c r w = omega arith

pub floats : Total Numeric order_floats
unfolding side
floats =
    record {
      self = λ x h. by_side x x h h ∙ equal_is (side x x) (side x x) refl;
      back = λ x y h k. by_side y x k h ∙ numbers_back (side x y) (side y x) ∙ sym (ap ordering_reverse (by_side x y h k));
      chain = λ x y z h k l.
          rw (by_side x y h k, by_side y z k l, by_side x z h l)
          (weighed (side x y) (side y x) (side y z) (side z y) (side x z) (side z x) (part z) (part x) (part y) (part_pos z) (part_pos x) (part_pos y)
          (side_sums (above x) (part x) (under x) (above y) (part y) (under y) (above z) (part z) (under z)));
    }

-- ---- the same, as IEEE 754 has it
and-true : (b : Bool) → (b && true) ≡ b
and-true true = refl
and-true false = refl

-- of opposite signs, only zeros are equal
apart_signs : (a b : ℕ) → (eqb a b && eqb a 0) ≡ eqb (a + b) 0
apart_signs a b = elim (ℕ_discrete (a + b) 0) [
  | yes z ↦ rw (eq-eqb (a + b) 0 z, eq-eqb a b (omega arith), eq-eqb a 0 (omega arith))
  | no z ↦ elim (ℕ_discrete a b) [
    | yes e ↦ rw (ne_eqb (a + b) 0 z, eq-eqb a b e, ne_eqb a 0 (λ q. z (omega arith)))
    | no e ↦ rw (ne_eqb (a + b) 0 z, ne_eqb a b e)
  ]
]

level_side : (s t : Bool) (a b p q : ℕ) → level s (a * q) t (b * p) ≡ eqb (upper s a * q + lower t b * p) (upper t b * p + lower s a * q)
unfolding upper lower
level_side false false a b p q = and-true (eqb (a * q) (b * p)) ∙ two_sides eqb (a * q) (b * p) (a * q + 0 * p) (b * p + 0 * q) (omega arith) (omega arith)
level_side true false a b p q =
    apart_signs (a * q) (b * p) ∙ eqb_swap (a * q + b * p) 0 ∙ two_sides eqb 0 (a * q + b * p) (0 * q + 0 * p) (b * p + a * q) (omega arith) (omega arith)
level_side false true a b p q = apart_signs (a * q) (b * p) ∙ two_sides eqb (a * q + b * p) 0 (a * q + b * p) (0 * p + 0 * q) refl (omega arith)
level_side true true a b p q =
    and-true (eqb (a * q) (b * p)) ∙ eqb_swap (a * q) (b * p) ∙ two_sides eqb (b * p) (a * q) (0 * q + b * p) (0 * p + a * q) (omega arith) (omega arith)

eq_side : (x y : Float) → Numeric x → Numeric y → eq x y ≡ eqb (side x y) (side y x)
unfolding eq side above under part
eq_side (fin s m e) (inf _) h k = elim k [ ]
eq_side (fin s m e) nan h k = elim k [ ]
eq_side (inf _) y h k = elim h [ ]
eq_side nan y h k = elim h [ ]
eq_side (fin s m e) (fin t n d) h k = level_side s t (m * up e) (n * up d) (down e) (down d)

-- two floats are the same in the order exactly where they are equal as numbers
pub floats_same : (x y : Float) → Numeric x → Numeric y → order_floats x y ≡ Equal → eq x y ≡ true
floats_same x y h k e = eq_side x y h k ∙ eq-eqb (side x y) (side y x) (numbers_same (side x y) (side y x) (sym (by_side x y h k) ∙ e))

pub same_floats : (x y : Float) → Numeric x → Numeric y → eq x y ≡ true → order_floats x y ≡ Equal
same_floats x y h k e = by_side x y h k ∙ equal_is (side x y) (side y x) (eqb-true (side x y) (side y x) (sym (eq_side x y h k) ∙ e))
