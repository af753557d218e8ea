-- The rounding of an exact root to nearest, ties to even, over whole numbers. Definitions only.
use Rattle.std.specs.Prelude.{◌≡◌, ◌+◌, ◌/◌, ◌%◌, ◌<◌}
use Rattle.laws.specs.Kit.{ℕ}

-- q is the whole number nearest to half of the exact root, of which `root` is the whole part and the rest says
-- whether there is more; the exact middle goes to the even one
pub record Halved (root rest q : ℕ) : Type 0 where
  pub even : root % 2 ≡ 0 → q ≡ root / 2
  pub tie : root % 2 ≡ 1 → rest ≡ 0 → q ≡ root / 2 + root / 2 % 2
  pub odd : root % 2 ≡ 1 → 0 < rest → q ≡ root / 2 + 1
