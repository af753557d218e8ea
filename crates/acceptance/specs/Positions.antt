-- Where the points lie.
use Rattle.std.specs.Prelude.{true, false, List, [], ◌∷◌, ℕ, ◌+◌, ◌*◌, ◌%◌, get_or, replicate, Float}
use Rattle.std.specs.Float.{nan, binary64}
use Rattle.std.specs.Float.Ieee.{round}
use Rattle.definition.specs.Lists.{below, flat_map}
use Rattle.definition.specs.Call.{onto}

-- so many sixteenths
unfoldable pub plus : ℕ → Float
plus n = round binary64 false n 16

-- so many sixteenths below zero
unfoldable pub minus : ℕ → Float
minus n = round binary64 true n 16

-- x and y of five points to a position, in sixteenths; three and four points are the first of them
unfoldable pub positions : List (List Float)
positions =
    (plus 0 ∷ plus 0 ∷ plus 16 ∷ plus 0 ∷ plus 16 ∷ plus 16 ∷ plus 0 ∷ plus 16 ∷ plus 8 ∷ plus 8 ∷ [])
    ∷ (plus 0 ∷ plus 0 ∷ plus 16 ∷ plus 0 ∷ plus 0 ∷ plus 16 ∷ plus 16 ∷ plus 16 ∷ plus 8 ∷ plus 4 ∷ [])
    ∷ (plus 16 ∷ plus 0 ∷ plus 5 ∷ plus 15 ∷ minus 13 ∷ plus 9 ∷ minus 13 ∷ minus 9 ∷ plus 5 ∷ minus 15 ∷ [])
    ∷ (plus 0 ∷ plus 0 ∷ plus 8 ∷ plus 14 ∷ plus 16 ∷ plus 0 ∷ plus 24 ∷ plus 14 ∷ plus 32 ∷ plus 0 ∷ [])
    ∷ (plus 0 ∷ plus 0 ∷ plus 32 ∷ plus 0 ∷ plus 24 ∷ plus 16 ∷ plus 8 ∷ plus 16 ∷ plus 16 ∷ plus 0 ∷ [])
    ∷ (plus 0 ∷ plus 0 ∷ plus 16 ∷ plus 0 ∷ plus 16 ∷ plus 16 ∷ plus 16 ∷ plus 16 ∷ plus 0 ∷ plus 16 ∷ [])
    ∷ (plus 0 ∷ plus 0 ∷ plus 8 ∷ plus 4 ∷ plus 16 ∷ plus 8 ∷ plus 24 ∷ plus 12 ∷ plus 32 ∷ plus 16 ∷ [])
    ∷ (minus 128 ∷ minus 128 ∷ plus 128 ∷ minus 128 ∷ plus 128 ∷ plus 128 ∷ minus 128 ∷ plus 128 ∷ plus 0 ∷ plus 0 ∷ [])
    ∷ []

-- the eight come again and again
unfoldable pub coordinates : ℕ → List Float
coordinates p = get_or positions (p % 8) []

-- x and y of point i, and its z
unfoldable pub point : List Float → ℕ → List Float
point c i = get_or c (2 * i) nan ∷ get_or c (2 * i + 1) nan ∷ plus 0 ∷ []

-- the five points at the front of a slice of 24
unfoldable pub placed : List Float → List Float
placed c = onto (flat_map (point c) (below 5)) (replicate 72 (plus 0))
