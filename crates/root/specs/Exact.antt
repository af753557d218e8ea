-- The exact result of a square root, over whole numbers. Nothing is rounded here. Definitions only.
use Rattle.std.specs.Prelude.{◌≡◌, ◌+◌, ◌-◌, ◌*◌, ◌/◌, ◌^◌, ◌<◌, ◌≤◌}
use Rattle.laws.specs.Kit.{ℕ}
use Rattle.rounding.specs.Parts.{Significand, Leading, Evened}

-- the whole root of n, and what is left over: n is root * root + rest, and the next square is above n
pub record WholeRoot (n root rest : ℕ) : Type 0 where
  pub sum : root * root + rest ≡ n
  pub least : rest ≤ 2 * root

-- r is a significand, doubled for an odd exponent; last has its digits but the leading one,
-- and on top of them a 1 for an odd exponent
pub record Doubled (last r : ℕ) : Type 0 where
  pub even : last < 2 ^ 52 → r ≡ last + 2 ^ 52
  pub odd : 2 ^ 52 ≤ last → r ≡ last * 2
  pub least : 0 < r
  pub most : r < 2 ^ 54

-- last and half say the double with the bits b: its significand m,
-- shifted by z so that its leading digit stands at 2 ^ 52, is doubled for an odd exponent, which makes it r;
-- last has the digits of r, and half is the exponent of the root in the root's bits
pub record Radicand (b last half : ℕ) : Type 0 where
  pub m : ℕ
  pub z : ℕ
  pub significand : Significand b m
  pub leading : Leading m z
  pub short : last < 2 ^ 53
  pub evened : (r : ℕ) → Doubled last r → Evened (m * 2 ^ z) (b / 2 ^ 52 - 1 + 52 - z) r
  pub exponent : half ≡ (b / 2 ^ 52 - 1 + 52 - z) / 2 + 485
