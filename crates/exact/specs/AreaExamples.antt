-- Areas and the tests of the grid at numbers, by computation. Assumes nothing.
use Rattle.std.specs.Prelude.{◌≡◌, ◌^◌}
use Rattle.laws.specs.Kit.{refl, true, false, nan, of_bits, round, eq, neg, mul}
use Rattle.std.specs.Float.Ieee.{size}
use Rattle.definition.specs.Floats.{◌⊗◌, on_grid, f64, 0·0, 0·25, 0·3, 0·5, 1·0}
use Rattle.definition.specs.Root.{floor}
use Rattle.definition.specs.Plane.{Node, flat}
use Rattle.definition.specs.Exact.{signed, units, arrow, exact_cross, twice_tri, twice_quad}
use Rattle.definition.specs.Call.{grid_node}
use Rattle.exact.specs.GridTest.{1024·0, is_whole_part}

-- to unfold `computed` is to unfold what the statements are made of
unfoldable pub computed : Unit {0}
unfolding neg mul eq of_bits round size ◌⊗◌ f64 0·0 0·25 0·3 0·5 1·0 floor flat signed units arrow exact_cross on_grid grid_node twice_tri twice_quad 1024·0 is_whole_part
computed = tt

-- the unit square
abbrev pub o : Node
o = flat 0·0 0·0

abbrev pub e : Node
e = flat 1·0 0·0

abbrev pub ne : Node
ne = flat 1·0 1·0

abbrev pub n : Node
n = flat 0·0 1·0
