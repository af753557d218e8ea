-- What it is for a double to be nearest to the root of another, over the whole numbers.
-- `Near` shows it of `sqrt`.
-- Definitions only.
use Rattle.std.specs.Prelude.{◌≡◌, ◌+◌, ◌-◌, ◌*◌, ◌/◌, ◌^◌, ◌<◌, ◌≤◌}
use Rattle.laws.specs.Kit.{ℕ, Float, nan, fin, inf, down, up}

-- The size of a finite double, counted in the smallest double, 2 ^ -1074. No double has a fraction of that.
unfoldable pub ulps : Float → ℕ
ulps nan = 0
ulps (inf s) = 0
ulps (fin s m e) = m * up e * 2 ^ 1074 / down e

-- r is nearer to the root of x than y is, for an r and a y that are not negative:
-- the root lies on r's side of the middle between the two, (r + y) / 2.
-- Both sides are squared, and counted in 2 ^ -2148: 4 * x is 4 * ulps x * 2 ^ 1074 of those.
pub record Nearer (x r y : Float) : Type 0 where
  pub below : ulps y < ulps r → (ulps r + ulps y) * (ulps r + ulps y) < 4 * ulps x * 2 ^ 1074
  pub above : ulps r < ulps y → 4 * ulps x * 2 ^ 1074 < (ulps r + ulps y) * (ulps r + ulps y)

-- r is q * 2 ^ k with q of 53 digits, and the root of x is less than half of 2 ^ k away from it
pub record HalfUnit (x r : Float) : Type 0 where
  pub q : ℕ
  pub k : ℕ
  pub is : ulps r ≡ q * 2 ^ k
  pub lead : 2 ^ 52 ≤ q
  pub digits : q < 2 ^ 53
  pub low : (2 * q - 1) * 2 ^ k * ((2 * q - 1) * 2 ^ k) < 4 * ulps x * 2 ^ 1074
  pub high : 4 * ulps x * 2 ^ 1074 < (2 * q + 1) * 2 ^ k * ((2 * q + 1) * 2 ^ k)
