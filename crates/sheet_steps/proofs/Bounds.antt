-- The place of a quad as a sum over the bounds.
use Rattle.std.specs.Prelude.{◌≡◌, ◌+◌}
use Rattle.laws.specs.Kit.{cond, ℕ, arith, Float}
use Rattle.definition.specs.Floats.{◌≼◌, 0·1, 0·2, 0·3, 0·4, 0·5, 0·6, 0·7, 0·8, 0·9}
use Rattle.definition.specs.Metrics.{measured}
use Rattle.definition.specs.Sheet.{bounds, place}
use Rattle.sheet_steps.specs.Counting.{counting, counting_none}

-- 1 for each bound that is reached
module _ (sj : Float) where
  abbrev pub at : Float → ℕ
  at b = cond (b ≼ sj) 1 0

  pub place_sum : (k : Float) → place (measured sj k) ≡ at 0·1 + at 0·2 + at 0·3 + at 0·4 + at 0·5 + at 0·6 + at 0·7 + at 0·8 + at 0·9
  unfolding place bounds
  place_sum k = simp (counting, counting_none) (omega arith)
