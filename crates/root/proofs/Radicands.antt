-- The number under the root, scaled: of a normal double and of a subnormal one;
-- and what the exact result says of the double itself.
-- Nothing is rounded here.
-- Assumes nothing.
use Rattle.std.specs.Prelude.{◌≡◌, ◌+◌, ◌-◌, ◌*◌, ◌/◌, ◌%◌, ◌^◌, ◌<◌, ◌≤◌}
use Rattle.laws.specs.Kit.{refl, sym, ◌∙◌, ap, false, ℕ, arith, dec_le, pow_pos, pow-add, Float, binary64, nan, fin, inf, down, up, of_bits}
use Rattle.std.proofs.Common.{lt_of_not-le, mul_right_comm}
use native.Mathlib.Nat.{eq_of_mul-eq-mul_right}
use lib.Ieee.Exact.{HasValue}
use Rattle.laws.specs.Isqrt.{four_pow}
use Rattle.rounding.specs.Parts.{Leading, Evened}
use Rattle.rounding.proofs.Fields.{field_value}
use Rattle.rounding.proofs.Root.{evened as fourfold}
use Rattle.root.specs.Exact.{WholeRoot, Doubled, Radicand}

-- r for digits that have their leading one left out, n * 2 ^ 52 below it
evened : (n g last r : ℕ) → 2 ^ 52 ≤ n → n < 2 ^ 53 → last ≡ n % 2 ^ 52 + g % 2 * 2 ^ 52 → Doubled last r → Evened n g r
evened n g last r lo hi e d =
    elim (dec_le (2 ^ 52) last) [
      | yes l ↦
          let f : r ≡ last * 2 = d.odd l in
          record { even = λ h. omega arith; odd = λ h. omega arith; least = omega arith; most = omega arith }
      | no l ↦
          let k : last < 2 ^ 52 = lt_of_not-le l in
          let f : r ≡ last + 2 ^ 52 = d.even k in
          record { even = λ h. omega arith; odd = λ h. omega arith; least = omega arith; most = omega arith }
    ]

pub normal : (b : ℕ) → 2 ^ 52 ≤ b → Radicand b ((b + 2 ^ 52) % 2 ^ 53) ((b + 2 ^ 52) / 2 ^ 53 + 510)
normal b lo =
    record {
      m = b % 2 ^ 52 + 2 ^ 52;
      z = 0;
      significand = record { low = λ h. omega arith; high = λ h. refl; some = λ h. omega arith; short = omega arith };
      leading = record { most = omega arith; lead = omega arith; digits = omega arith };
      short = omega arith;
      evened = λ r d. evened ((b % 2 ^ 52 + 2 ^ 52) * 2 ^ 0) (b / 2 ^ 52 - 1 + 52 - 0) ((b + 2 ^ 52) % 2 ^ 53) r (omega arith) (omega arith) (omega arith) d;
      exponent = omega arith;
    }

pub subnormal : (b z : ℕ) → b < 2 ^ 52 → Leading b z → Radicand b (b * 2 ^ z % 2 ^ 52 + (52 - z) % 2 * 2 ^ 52) ((52 - z) / 2 + 485)
subnormal b z hi lead =
    let e : b / 2 ^ 52 - 1 + 52 - z ≡ 52 - z = omega arith in
    record {
      m = b;
      z = z;
      significand = record { low = λ h. refl; high = λ h. omega arith; some = λ h. h; short = omega arith };
      leading = lead;
      short = omega arith;
      evened = λ r d. evened (b * 2 ^ z) (b / 2 ^ 52 - 1 + 52 - z) (b * 2 ^ z % 2 ^ 52 + (52 - z) % 2 * 2 ^ 52) r lead.lead lead.digits (omega arith) d;
      exponent = omega arith;
    }

-- ---- the exact result and the double

-- from one fraction to another of the same size
rescale : (x : Float) (a c n d : ℕ) → 0 < c → n * c ≡ a * d → HasValue x false a c → HasValue x false n d
rescale nan a c n d p h v = v
rescale (inf t) a c n d p h v = v
rescale (fin t m e) a c n d p h v = (
  v.0,
  eq_of_mul-eq-mul_right c p (m * up e * d) (n * down e)
      (mul_right_comm (m * up e) d c
      ∙ ap (λ (x : ℕ). x * d) v.1
      ∙ mul_right_comm a (down e) d
      ∙ ap (λ (x : ℕ). x * down e) (sym h)
      ∙ mul_right_comm n c (down e)),
)

level : (r c k u t n d : ℕ) → n * d ≡ r * k → r * c * (k * u) * t ≡ n * (d * (c * u * t))
level r c k u t n d e = omega (arith, ap (λ (x : ℕ). x * (c * u * t)) e)

-- the double is root * root + rest in units of (2 ^ (half - 1075)) squared; since rest is at most 2 * root,
-- its exact root is at least `root` and below `root + 1` in units of 2 ^ (half - 1075)
pub exact_value : (b last half r root rest : ℕ) → b < 2047 * 2 ^ 52 → Radicand b last half → Doubled last r → WholeRoot (r * 2 ^ 54) root rest
    → HasValue (of_bits binary64 b) false ((root * root + rest) * 4 ^ half) (4 ^ 1075)
exact_value b last half r root rest h s d w =
    let n = s.m * 2 ^ (b / 2 ^ 52 - 1) in
    let g = b / 2 ^ 52 - 1 + 52 - s.z in
    let k = 2 ^ (g / 2) * 2 ^ (g / 2) in
    let e : n * 2 ^ 52 ≡ r * k = fourfold s.m s.z (b / 2 ^ 52 - 1) g r s.leading.most refl (s.evened r d) in
    let f : 4 ^ half ≡ k * 4 ^ 485 = ap (λ (x : ℕ). 4 ^ x) s.exponent ∙ pow-add 4 (g / 2) 485 ∙ ap (λ (x : ℕ). x * 4 ^ 485) (four_pow (g / 2)) in
    rescale (of_bits binary64 b) n (2 ^ 1074) ((root * root + rest) * 4 ^ half) (4 ^ 1075) (pow_pos 1074)
    (ap (λ (x : ℕ). x * 4 ^ half * 2 ^ 1074) w.sum ∙ ap (λ (x : ℕ). r * 2 ^ 54 * x * 2 ^ 1074) f ∙ level r (2 ^ 54) k (4 ^ 485) (2 ^ 1074) n (2 ^ 52) e)
    (field_value b s.m h s.significand)
