-- Areas and the tests of the grid at numbers, by computation. Assumes nothing.
use Rattle.std.specs.Prelude.{◌≡◌, ◌^◌}
use Rattle.laws.specs.Kit.{refl, true, false, nan, of_bits, round, eq, neg, mul}
use Rattle.std.specs.Float.Ieee.{size}
use Rattle.definition.specs.Floats.{◌⊗◌, on_grid, f64, 0·0, 0·25, 0·3, 0·5, 1·0}
use Rattle.definition.specs.Root.{floor}
use Rattle.definition.specs.Plane.{Node, flat}
use Rattle.definition.specs.Exact.{signed, units, arrow, exact_cross, twice_tri, twice_quad}
use Rattle.definition.specs.Call.{grid_node}
use Rattle.exact.specs.GridTest.{1024·0, is_whole_part}
use Rattle.exact.specs.AreaExamples.{computed, e, n, ne, o}

-- ---- areas, doubled
half_square : twice_tri o e ne ≡ 2 ^ 2148
unfolding computed
half_square = refl

clockwise : twice_tri o ne e ≡ 2 ^ 2148
unfolding computed
clockwise = refl

square : twice_quad o e ne n ≡ 2 ^ 2149
unfolding computed
square = refl

-- an arrowhead is its halves' difference, and a bow tie nothing
arrowhead : twice_quad o e (flat 0·25 0·25) n ≡ 2 ^ 2147
unfolding computed
arrowhead = refl

bow_tie : twice_quad o ne e n ≡ 0
unfolding computed
bow_tie = refl

-- ---- the grid
grid_yes : grid_node (flat (neg 0·25) 0·5) ≡ true
unfolding computed
grid_yes = refl

grid_no : grid_node (flat 0·5 0·3) ≡ false
unfolding computed
grid_no = refl

grid_nan : grid_node (flat nan 0·0) ≡ false
unfolding computed
grid_nan = refl

-- as a program tests it: 1 / 1024, -1 / 1024, and the next double after 1 / 1024
tested_yes : is_whole_part (f64 0x3f50000000000000) ≡ true
unfolding computed
tested_yes = refl

tested_minus : is_whole_part (f64 0xbf50000000000000) ≡ true
unfolding computed
tested_minus = refl

tested_no : is_whole_part (f64 0x3f50000000000001) ≡ false
unfolding computed
tested_no = refl
