-- A finite double taken apart by its bits: significand, exponent, and the number whose whole root is taken.
-- Definitions only.
use Rattle.std.specs.Prelude.{◌≡◌, ◌+◌, ◌-◌, ◌*◌, ◌%◌, ◌^◌, ◌<◌, ◌≤◌}
use Rattle.laws.specs.Kit.{ℕ}

-- m is the significand of the pattern b, whose sign is left out:
-- the double is m * 2 ^ (b / 2 ^ 52 - 1) units of 2 ^ -1074
pub record Significand (b m : ℕ) : Type 0 where
  pub low : b < 2 ^ 52 → m ≡ b
  pub high : 2 ^ 52 ≤ b → m ≡ b % 2 ^ 52 + 2 ^ 52
  pub some : 0 < b → 0 < m
  pub short : m < 2 ^ 53

-- shifted up by z digits, m has its leading digit at 2 ^ 52
pub record Leading (m z : ℕ) : Type 0 where
  pub most : z ≤ 52
  pub lead : 2 ^ 52 ≤ m * 2 ^ z
  pub digits : m * 2 ^ z < 2 ^ 53

-- r is n, or twice n for an odd g, so that r * 2 ^ (g - g % 2) is n * 2 ^ g
pub record Evened (n g r : ℕ) : Type 0 where
  pub even : g % 2 ≡ 0 → r ≡ n
  pub odd : g % 2 ≡ 1 → r ≡ n * 2
  pub least : n ≤ r
  pub most : r ≤ 2 ^ 54 - 2
