-- The tests and the statements at numbers: for each test an input that passes and one that fails, by computation.
-- Assumes nothing.
use Rattle.laws.specs.Kit.{refl, inl, inr, true, false, ℕ, zero, suc, arith, lit<, lit≤, ℤ, pos, List, [], Float, nan, inf, of_bits, fits, round, eq, lt, le, neg, add, sub, mul, div}
use Rattle.std.proofs.Common.{not-le_of_lt}
use Rattle.std.specs.Prelude.{neg_ℤ, nat_abs, ◌*ℤ◌, ◌≡◌, ◌-◌, ◌*◌, ◌^◌, ◌<◌, ◌∷◌}
use Rattle.std.specs.Float.Ieee.{size}
use Rattle.definition.specs.Lists.{any}
use Rattle.definition.specs.Floats.{◌⊕◌, ◌⊖◌, ◌⊗◌, ◌⊘◌, ◌≺◌, ◌≼◌, abs, finite, lesser, greater, f64, 0·0, 0·25, 0·3, 0·4, 0·5, 0·6, 0·7, 0·8, 0·9, 0·90630778703665, 1·0, 2·0, 2·5, 3·0, 8·0, 1/64, 1e-12}
use Rattle.definition.specs.Numbers.{base, insert_shares, tiny_cross, tiny_length}
use Rattle.definition.specs.Root.{isqrt, scale, sqrt}
use Rattle.definition.specs.Plane.{Node, flat, point, cross, side, parts, segments_cross, positive, negative, point_strictly_inside, shoelace, twice_area, from_to, dot, norm, over, dist, edge_length}
use Rattle.definition.specs.Metrics.{Corner, corner, c0, c1, c2, c3, d0, d1, weights, weighted, scaled, jacobian_at, min_scaled_jacobian, corner_of, corners, not_convex, angle_of, clamp, cosine, largest_cosine, quad_metrics, passes, score}
use Rattle.definition.specs.Insertion.{along}
use Rattle.definition.specs.Attempt.{target_of, inward_normal}
use Rattle.definition.specs.Loops.{loop_perimeter}
use Rattle.definition.specs.Exact.{signed, units, arrow, exact_cross, exact_dot, squared_length, squared, next_side, last_side, TurnsLeft, WideEnough}
use Rattle.definition.specs.Account.{All}
use Rattle.definition.specs.Call.{Asked, outside, most_coordinate, least_size, most_size, bad_size, settings_within, settings}
use Rattle.exact.specs.Limits.{Limit}
use Rattle.exact.specs.Theorems.{Within}

-- to unfold `computed` is to unfold what the tests are made of
unfoldable pub computed : Unit {0}
unfolding add sub mul div neg lt le eq of_bits fits round size any ◌⊕◌ ◌⊖◌ ◌⊗◌ ◌⊘◌ ◌≺◌ ◌≼◌ abs finite lesser greater f64 0·0 0·25 0·3 0·4 0·5 0·6 0·7 0·8 0·9 0·90630778703665 1·0 2·0 2·5 3·0 8·0 1/64 1e-12 base insert_shares tiny_cross tiny_length isqrt scale sqrt flat point cross side parts segments_cross positive negative point_strictly_inside shoelace twice_area from_to dot norm over dist edge_length corner c0 c1 c2 c3 d0 d1 weights weighted scaled jacobian_at min_scaled_jacobian corner_of corners not_convex angle_of clamp cosine largest_cosine quad_metrics passes score along target_of inward_normal loop_perimeter signed units arrow exact_cross exact_dot squared_length squared next_side last_side outside most_coordinate least_size most_size bad_size settings settings_within
computed = tt

-- ---- quads
-- the unit square
abbrev pub o : Node
o = flat 0·0 0·0

abbrev pub e : Node
e = flat 1·0 0·0

abbrev pub ne : Node
ne = flat 1·0 1·0

abbrev pub n : Node
n = flat 0·0 1·0

-- ---- corners
-- a corner of 45 degrees is wide enough, and one of 14 degrees is not
abbrev pub sharp : Corner
sharp = corner_of (flat 8·0 2·0) o (flat 8·0 0·0)

-- ---- insertion
-- from (0, 0), an end of the edge to (1, 0), by 0.3 of the target: the triangle (-1, -1) (1,
-- -1) (0, 1) holds the point (0, 0.3)
abbrev pub no_size : Asked
no_size = record { given = 0; capacity = 0; count = 0; slots = 0; joints = 0; size = 0·0; stop = 0; quality = base; grid = false }

abbrev pub added : Node
added = along o (inward_normal (from_to o e) (norm (from_to o e))) (target_of (settings no_size) (dist e o)) 0·3

-- ---- lengths, perimeters
abbrev pub triangle : List Node
triangle = o ∷ e ∷ n ∷ []
