-- What the definition's float tests mean in exact arithmetic.
-- Each statement reads by itself; the proof below it cites the file that has it.
-- Nothing is assumed: a coordinate is any number that passes the test of refusal 7, double or not.
use Rattle.laws.specs.Kit.{refl, sym, ap₂, subst, Bool, true, false, ℕ, zero, suc, pos, List, [], length, Float, binary64, fin, fits, eq}
use Rattle.std.specs.Prelude.{◌*ℤ◌, ◌≡◌, ◌&&◌, ◌+◌, ◌^◌, ◌≤◌, ◌∷◌}
use Rattle.definition.specs.Floats.{◌⊗◌, ◌≼◌, finite, 0·0, 0·5, 0·99, 1·0}
use Rattle.definition.specs.Floats as floats
use Rattle.definition.specs.Numbers.{Quality, Settings, base, insert_shares, tiny_length}
use Rattle.definition.specs.Plane.{Node, Edge, flat, point, cross, side, from_to, norm, dist, edge_length, size_mismatch, point_strictly_inside, segments_cross}
use Rattle.definition.specs.Plane as plane
use Rattle.definition.specs.Metrics.{Corner, corners, quad_metrics, passes, score}
use Rattle.definition.specs.Loops.{loop_perimeter, ranked_before}
use Rattle.definition.specs.Trials.{trial_before}
use Rattle.definition.specs.Cells.{Tri, Quad, tri, Live, Mesh, node_at, tris_of}
use Rattle.definition.specs.Flips.{apart}
use Rattle.definition.specs.Region.{region_area, area_agrees}
use Rattle.definition.specs.Insertion.{along, holds}
use Rattle.definition.specs.Attempt.{inward_normal, target_of}
use Rattle.definition.specs.Exact.{units, arrow, exact_cross, TurnsLeft, CosineUpTo, WideEnough, twice_tri, Finite}
use Rattle.definition.specs.Account.{All, ◌∈◌, quad_area, tris_area}
use Rattle.definition.specs.Call.{Asked, outside, bad_size, ranges, good_quality, grid_node}
use Rattle.laws.specs.Bools.{both}
use Rattle.exact.specs.Values.{Ok}
use Rattle.exact.specs.Sums.{Number}
use Rattle.exact.specs.Limits.{Limit}
use Rattle.exact.specs.Inserted.{Size}
use Rattle.exact.specs.Ranks.{Total, FiniteRank, SameLead, FiniteScore, SameNodes}
use Rattle.exact.specs.Grid.{GridPoint}
use Rattle.exact.specs.GridTest.{is_whole_part}
use Rattle.exact.specs.Sides.{SameAs}
use Rattle.exact.specs.Areas.{Placed}
use Rattle.exact.specs.Crossing.{StrictlyIn, TwoSides}

-- x and y are numbers within 8 of zero: the definition's own test of a given point
abbrev pub Within : Node → Type 0
Within p = outside p ≡ false

-- a double that is neither a NaN nor an infinity
abbrev pub FiniteDouble : Float → Type 0
FiniteDouble x = Ok binary64 x
