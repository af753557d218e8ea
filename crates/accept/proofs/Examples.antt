-- The verdict computed on the unit square, as it should be and spoilt in each clause.
use Rattle.std.specs.Prelude.{◌≡◌, ◌∷◌}
use Rattle.laws.specs.Kit.{refl, none, some, ℕ, List, [], Float, of_bits, to_bits, lt, neg}
use Rattle.std.specs.Float.Ieee.{size}
use Rattle.definition.specs.Lists.{filter, any, all, find, first, insert, sort, flat_map, concat, contains}
use Rattle.definition.specs.Floats.{◌≺◌, f64, 0·0, 0·25, 0·5, 0·99, 1·0, 0·90630778703665}
use Rattle.definition.specs.Plane.{Node, Edge, flat, point}
use Rattle.definition.specs.Metrics.{corner_of, corners}
use Rattle.definition.specs.Cells.{Tri, Quad, new_tri, new_quad, key, same_edge, edge_before, has_edge_in, tri_nodes, quad_nodes, tri_edges, quad_edges}
use Rattle.definition.specs.Components.{share_edge, meets, join, classes, component_sizes}
use Rattle.definition.specs.Exact.{signed, units, arrow, exact_cross, exact_dot, squared, squared_length, next_side, last_side}
use Rattle.definition.specs.Account.{quad_corners}
use Rattle.accept.specs.Accept.{Judged, tri_sides, quad_sides, given_sides, cell_sides, walked, times, tri_corners, turn, failing, same_bits, same_point, moved, above, turns_left, cosine_at_most, cosine_up_to, is_convex, is_wide, is_blunt, counterclockwise, is_level, uneven, stands, upright, uprights, Verdict, odd_ones, verdict}
use Rattle.accept.specs.Places.{Place, toward, left, inside, covering}
use Rattle.accept.specs.Examples.{clean, clockwise_halves, computed, halved, halves, judge, low, middle, on_diagonal, square}

one_quad : verdict (judge square (new_quad 0 1 2 3 ∷ []) [] []) ≡ clean 0 [] 0
unfolding computed
one_quad = refl

-- around an added node
four_triangles : verdict (judge middle [] (new_tri 0 1 4 ∷ new_tri 1 2 4 ∷ new_tri 2 3 4 ∷ new_tri 3 0 4 ∷ []) []) ≡ clean 1 (4 ∷ []) 0
unfolding computed
four_triangles = refl

-- ---- offenders
-- the joint between 0 and 2 is covered; that between 1 and 3 was none of the given triangles'
joint_lost : (verdict (judge square (new_quad 0 1 2 3 ∷ []) [] ((1, 3) ∷ (0, 2) ∷ []))).lost ≡ some 1
unfolding computed
joint_lost = refl

-- one of the four triangles is missing
gap : (verdict (judge middle [] (new_tri 0 1 4 ∷ new_tri 1 2 4 ∷ new_tri 2 3 4 ∷ []) [])).uneven ≡ some (0, 3)
unfolding computed
gap = refl

-- one is there twice
overlap : (verdict (judge middle [] (new_tri 0 1 4 ∷ new_tri 1 2 4 ∷ new_tri 1 2 4 ∷ new_tri 2 3 4 ∷ new_tri 3 0 4 ∷ []) [])).uneven ≡ some (1, 2)
unfolding computed
overlap = refl

-- node 4 hangs on the diagonal: no side of the triangle 0 2 3 meets those of the others
hanging : (verdict (judge middle [] (new_tri 0 1 4 ∷ new_tri 1 2 4 ∷ new_tri 0 2 3 ∷ []) [])).uneven ≡ some (0, 2)
unfolding computed
hanging = refl

-- a triangle without area, which would close the sides there
closed_flat : (verdict (judge middle [] (new_tri 0 1 4 ∷ new_tri 1 2 4 ∷ new_tri 0 4 2 ∷ new_tri 0 2 3 ∷ []) [])).left_turned ≡ some 2
unfolding computed
closed_flat = refl

-- a quad whose corner at 4 is straight; the sides balance
straight : (verdict (judge middle (new_quad 0 1 2 4 ∷ []) (new_tri 0 4 3 ∷ new_tri 4 2 3 ∷ []) [])).folded ≡ some 0
unfolding computed
straight = refl

-- turned over
clockwise : (verdict (judge square (new_quad 0 3 2 1 ∷ []) [] [])).folded ≡ some 0
unfolding computed
clockwise = refl

-- -0.0 is not 0.0, and a point is missing
sign_moved : (verdict (judge (flat 0·0 0·0 ∷ flat 1·0 (neg 0·0) ∷ flat 1·0 1·0 ∷ flat 0·0 1·0 ∷ []) (new_quad 0 1 2 3 ∷ []) [] [])).moved ≡ some 1
unfolding computed
sign_moved = refl

point_missing : (verdict (judge (flat 0·0 0·0 ∷ flat 1·0 0·0 ∷ flat 1·0 1·0 ∷ []) [] (new_tri 0 1 2 ∷ []) [])).moved ≡ some 3
unfolding computed
point_missing = refl

-- 45 degrees are under the 60 degrees of a cosine of 0.5, and over the 8.1 degrees of 0.99
thin_half : (verdict (halved 0·5 halves)).thin ≡ some 0
unfolding computed
thin_half = refl

none_thin : (verdict (halved 0·99 halves)).thin ≡ none
unfolding computed
none_thin = refl

-- a limit of 1 asks nothing, of a triangle without area neither
thin_unasked : (verdict (halved 1·0 (new_tri 0 1 1 ∷ []))).thin ≡ none
unfolding computed
thin_unasked = refl

as_they_are : (verdict clockwise_halves).given_turned ≡ some 0
unfolding computed
as_they_are = refl

turned_upright : verdict (uprights clockwise_halves) ≡ clean 0 (2 ∷ []) 0
unfolding computed upright
turned_upright = refl

-- once in the halves and once in the quad
in_halves : covering low square tri_sides halves ≡ 1
unfolding computed
in_halves = refl

in_quad : covering low square quad_sides (new_quad 0 1 2 3 ∷ []) ≡ 1
unfolding computed
in_quad = refl

-- a place on a side is strictly inside neither half, and still strictly inside the quad
on_side : covering on_diagonal square tri_sides halves ≡ 0
unfolding computed
on_side = refl

still_in_quad : covering on_diagonal square quad_sides (new_quad 0 1 2 3 ∷ []) ≡ 1
unfolding computed
still_in_quad = refl
