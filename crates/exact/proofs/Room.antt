-- What the error bounds ask of a format, and of a coordinate.
use Rattle.std.specs.Prelude.{◌≡◌, ◌+◌, ◌-◌, ◌*◌, ◌^◌, ◌<◌, ◌≤◌}
use Rattle.laws.specs.Kit.{refl, ap, ℕ, arith, mul-le-mul_left, mul-le-mul_right, lit≤, pow_pos, Float, binary64}
use Rattle.std.specs.Float.{Format}
use Rattle.std.specs.Float.Ieee.{prec, low}
use Rattle.std.specs.Float.Ieee.Scale.{overflow}
use Rattle.exact.specs.Near.{Within}
use Rattle.exact.specs.Parts.{M}
use Rattle.exact.proofs.Parts.{MDeep}
use Rattle.exact.specs.Values.{whole}
use Rattle.exact.proofs.Values.{half_le}
use Rattle.exact.specs.Sums.{Number}

pub record Room (f : Format) (q : ℕ) : Type 0 where
  pub unit : 2 ^ low f ≡ 2 ^ prec f * q
  pub some : 0 < q
  pub deep : 16777216 ≤ 2 ^ prec f
  pub fine : 1000 * M ≤ 2 ^ prec f
  pub wide : 1073741824 * 2 ^ low f ≤ overflow f
  pub rich : 1048576 * 2 ^ prec f ≤ q
  pub vast : 1048576 * (2 ^ prec f * 2 ^ low f) ≤ q * q

pub room64 : Room binary64 (2 ^ 1021)
room64 = record { unit = refl; some = pow_pos 1021; deep = lit≤ tt; fine = MDeep; wide = lit≤ tt; rich = lit≤ tt; vast = lit≤ tt }

-- ---- what follows
product_room : (L O n z : ℕ) → 0 < L → 1073741824 * L ≤ O → n ≤ 1000000 → z ≤ n * L * L → 2 * z + L < O * L
product_room L O n z P o h k = omega (arith, mul-le-mul_right (L * L) h, mul-le-mul_right L o, mul-le-mul_left L P)

product_half : (L Q H q n z : ℕ) → L ≡ Q * q → 0 < q → H ≤ Q → z ≤ n * L * L → z + H * L ≤ Q * ((n + 1) * (q * L))
product_half L Q H q n z e s h k = omega (arith, ap (λ (x : ℕ). n * (x * L)) e, mul-le-mul_right L h, mul-le-mul_left (Q * L) s)

module _ (f : Format) (q : ℕ) (R : Room f q) where
  -- 1 is many units
  pub fine : 16777216 * q ≤ 2 ^ low f
  fine = omega (arith, R.unit, mul-le-mul_right q R.deep)

  pub four : 4 ≤ q
  four = omega (arith, R.rich, R.deep)

  pub deeper : 2 ^ prec f ≤ 2 ^ low f
  deeper = omega (arith, R.unit, mul-le-mul_left (2 ^ prec f) R.some)

  -- a product of up to n does not overflow, and its error is at most n + 1 parts q of 1
  pub product_fits : (n z : ℕ) → n ≤ 1000000 → z ≤ n * 2 ^ low f * 2 ^ low f → 2 * z + 2 ^ low f < overflow f * 2 ^ low f
  product_fits n z h k = product_room (2 ^ low f) (overflow f) n z (pow_pos (low f)) R.wide h k

  pub product_err : (n z : ℕ) → z ≤ n * 2 ^ low f * 2 ^ low f → z + 2 ^ (prec f - 1) * 2 ^ low f ≤ 2 ^ prec f * ((n + 1) * (q * 2 ^ low f))
  product_err n z k = product_half (2 ^ low f) (2 ^ prec f) (2 ^ (prec f - 1)) q n z R.unit R.some (half_le f) k
