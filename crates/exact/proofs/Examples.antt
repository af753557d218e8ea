-- The tests and the statements at numbers: for each test an input that passes and one that fails, by computation.
use Rattle.laws.specs.Kit.{refl, inl, inr, true, false, ℕ, zero, suc, arith, lit<, lit≤, ℤ, pos, List, [], Float, nan, inf, of_bits, fits, round, eq, lt, le, neg, add, sub, mul, div}
use Rattle.std.proofs.Common.{not-le_of_lt}
use Rattle.std.specs.Prelude.{neg_ℤ, nat_abs, ◌*ℤ◌, ◌≡◌, ◌-◌, ◌*◌, ◌^◌, ◌<◌, ◌∷◌}
use Rattle.std.specs.Float.Ieee.{size}
use Rattle.definition.specs.Lists.{any}
use Rattle.definition.specs.Floats.{◌⊕◌, ◌⊖◌, ◌⊗◌, ◌⊘◌, ◌≺◌, ◌≼◌, abs, finite, lesser, greater, f64, 0·0, 0·25, 0·3, 0·4, 0·5, 0·6, 0·7, 0·8, 0·9, 0·90630778703665, 1·0, 2·0, 2·5, 3·0, 8·0, 1/64, 1e-12}
use Rattle.definition.specs.Numbers.{base, insert_shares, tiny_cross, tiny_length}
use Rattle.definition.specs.Root.{isqrt, scale, sqrt}
use Rattle.definition.specs.Plane.{Node, flat, point, cross, side, parts, segments_cross, positive, negative, point_strictly_inside, shoelace, twice_area, from_to, dot, norm, over, dist, edge_length}
use Rattle.definition.specs.Metrics.{Corner, corner, c0, c1, c2, c3, d0, d1, weights, weighted, scaled, jacobian_at, min_scaled_jacobian, corner_of, corners, not_convex, angle_of, clamp, cosine, largest_cosine, quad_metrics, passes, score}
use Rattle.definition.specs.Insertion.{along}
use Rattle.definition.specs.Attempt.{target_of, inward_normal}
use Rattle.definition.specs.Loops.{loop_perimeter}
use Rattle.definition.specs.Exact.{signed, units, arrow, exact_cross, exact_dot, squared_length, squared, next_side, last_side, TurnsLeft, WideEnough}
use Rattle.definition.specs.Account.{All}
use Rattle.definition.specs.Call.{Asked, outside, most_coordinate, least_size, most_size, bad_size, settings_within, settings}
use Rattle.exact.specs.Limits.{Limit}
use Rattle.exact.specs.Theorems.{Within}
use Rattle.exact.proofs.Theorems.{passing, inside, grid_cross}
use Rattle.exact.specs.Examples.{added, computed, e, n, ne, no_size, o, sharp, triangle}

-- the double just above 8
8+ : Float
8+ = f64 0x4020000000000001

-- ---- within 8
eight_passes : outside (flat 8·0 (neg 8·0)) ≡ false
unfolding computed
eight_passes = refl

beyond_fails : outside (flat 0·0 8+) ≡ true
unfolding computed 8+
beyond_fails = refl

nan_fails : outside (flat nan 0·0) ≡ true
unfolding computed
nan_fails = refl

square_passes : passes base (quad_metrics o e ne n) ≡ true
unfolding computed
square_passes = refl

-- the unit square is exactly convex and counterclockwise, with wide corners
square_exact : All TurnsLeft (corners o e ne n) × All WideEnough (corners o e ne n)
unfolding computed
square_exact = passing o e ne n refl refl refl refl square_passes

-- the square taken clockwise has no metrics
clockwise_fails : passes base (quad_metrics o n ne e) ≡ false
unfolding computed
clockwise_fails = refl

-- a parallelogram with corners of 22 degrees: its scaled Jacobian of 0.37 passes, its cosine of 0.93 does not
thin_fails : passes base (quad_metrics o e (flat 2·0 0·4) (flat 1·0 0·4)) ≡ false
unfolding computed
thin_fails = refl

diagonal_wide : WideEnough (corner_of ne o e)
unfolding computed
diagonal_wide = inr (lit≤ tt)

above_not_below : (k : ℤ) (a m : ℕ) → k ≡ pos (suc a) → k ≡ neg_ℤ (pos m) → ⊥
above_not_below k a zero p q = let z : suc a ≡ zero = cc in omega arith
above_not_below k a (suc m) p q = let z : ◌≡◌ {A = ℕ} 0 1 = cc in omega arith

sharp_narrow : WideEnough sharp → ⊥
unfolding computed
sharp_narrow (inl m) = above_not_below (exact_dot (next_side sharp) (last_side sharp)) (64 * 2 ^ 2148 - 1) m.0 refl m.1
sharp_narrow (inr h) = not-le_of_lt (lit< tt) h

-- ---- limits
half_limit : Limit 0·5
unfolding computed
half_limit = record { double = refl; from_zero = refl; below_one = refl }

-- at 1 every cosine passes, so it is no limit
one_no_limit : (1·0 ≺ 1·0) ≡ false
unfolding computed
one_no_limit = refl

-- ---- strictly inside
-- the triangle (0, 0) (1, 0) (0, 1) holds (0.25, 0.25), and does not hold (0.5, 0.5), which lies on its side
held : point_strictly_inside o e n (flat 0·25 0·25) ≡ true
unfolding computed
held = refl

on_side : point_strictly_inside o e n (flat 0·5 0·5) ≡ false
unfolding computed
on_side = refl

-- the segments of the square's diagonals cross, two of its sides do not
diagonals_cross : segments_cross o ne e n ≡ true
unfolding computed
diagonals_cross = refl

sides_apart : segments_cross o e n ne ≡ false
unfolding computed
sides_apart = refl

added_held : point_strictly_inside (flat (neg 1·0) (neg 1·0)) (flat 1·0 (neg 1·0)) n added ≡ true
unfolding computed
added_held = refl

added_within : Within added
unfolding computed
added_within = inside (settings no_size) no_size refl refl o e o (flat (neg 1·0) (neg 1·0)) (flat 1·0 (neg 1·0)) n refl refl refl refl refl refl 0·3 (inr (inr (inr (inr (inr (inr (inr (inl refl)))))))) refl added refl added_held

unit_length : edge_length triangle (0, 1) ≡ 1·0
unfolding computed
unit_length = refl

-- of points that are not within 8 a length need not be finite
far_length : finite (edge_length (flat (inf false) 0·0 ∷ o ∷ []) (0, 1)) ≡ false
unfolding computed
far_length = refl

-- ---- the grid
-- 0.5 and 0.25 are on the grid of 1 / 1024: no rounding
on_grid : exact_cross (arrow o (flat 0·5 0·25)) (arrow o (flat 0·25 0·5)) ≡ units (cross o (flat 0·5 0·25) (flat 0·25 0·5)) *ℤ pos (2 ^ 1074)
unfolding computed
on_grid = grid_cross o (flat 0·5 0·25) (flat 0·25 0·5) refl refl refl ((false, 0, (refl, refl)), (false, 0, (refl, refl))) ((false, 512, (refl, refl)), (false, 256, (refl, refl))) ((false, 256, (refl, refl)), (false, 512, (refl, refl)))

-- 0.3 and 0.7 are not: the float is off the exact one
off_grid : nat_abs (units (cross o (flat 0·3 0·7) (flat 0·7 0·9)) *ℤ pos (2 ^ 1074)) < nat_abs (exact_cross (arrow o (flat 0·3 0·7)) (arrow o (flat 0·7 0·9)))
unfolding computed
off_grid = lit< tt
