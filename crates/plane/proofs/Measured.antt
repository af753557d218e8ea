-- A quad's metrics, by what was computed before.
use Rattle.std.specs.Prelude.{◌≡◌, ◌&&◌, ◌||◌, ◌∷◌}
use Rattle.laws.specs.Kit.{Bool, true, not, cond, [], map, Float, binary64, inf, mul, div}
use Rattle.definition.specs.Floats.{◌⊗◌, ◌⊘◌, ◌≺◌, ◌≼◌, finite, greater, 0·0}
use Rattle.definition.specs.Lists.{any}
use Rattle.definition.specs.Numbers.{Quality}
use Rattle.definition.specs.Plane.{Node, Vec, from_to, dot, dist}
use Rattle.definition.specs.Metrics.{absent, measured, corner_of, corners, angle_of, clamp, cosine, largest_cosine, min_scaled_jacobian, quad_metrics, passes}
use Rattle.plane.specs.declared.metrics.Sides.{Sides}
use Rattle.plane.specs.Measures.{SidesOf, folded}

-- a corner's sides, by the distances of its neighbours
pub sides_by : (a b c : Node) {u v : Float} → u ≡ dist a b → v ≡ dist c b → mul binary64 u v ≡ (angle_of (corner_of a b c)).sides
unfolding angle_of corner_of dist ◌⊗◌
sides_by a b c e f = rw (e, f)

-- a corner's cosine
pub cosine_by : (a b c : Node) {u v : Vec} {p s : Float} → u ≡ from_to b a → v ≡ from_to b c → p ≡ dot u v → s ≡ (angle_of (corner_of a b c)).sides
    → clamp (div binary64 p s) ≡ cosine (angle_of (corner_of a b c))
unfolding cosine angle_of corner_of ◌⊘◌
cosine_by a b c e f g h = rw (g, h, e, f)

module _ (a b c d : Node) where
  pub largest_by : {p q r s : Float}
      → p ≡ cosine (angle_of (corner_of d a b)) → q ≡ cosine (angle_of (corner_of a b c)) → r ≡ cosine (angle_of (corner_of b c d)) → s ≡ cosine (angle_of (corner_of c d a))
      → greater (greater (greater (greater (inf true) p) q) r) s ≡ largest_cosine (map angle_of (corners a b c d))
  unfolding largest_cosine corners
  largest_by e f g h = rw (e, f, g, h)

  -- a side is zero where a product of two is
  pub flat_by : (s : Sides) → SidesOf s a b c d
      → any (λ t. t ≼ 0·0) (s.at_a ∷ s.at_b ∷ s.at_c ∷ s.at_d ∷ []) ≡ any (λ k. k.sides ≼ 0·0) (map angle_of (corners a b c d))
  unfolding any corners
  flat_by s h = rw (h.at_a, h.at_b, h.at_c, h.at_d)

  -- the metrics by the outcomes of the tests
  pub metrics_by : (p r : Bool) → folded a b c d ≡ p → any (λ k. k.sides ≼ 0·0) (map angle_of (corners a b c d)) ≡ r
      → quad_metrics a b c d ≡ cond (p || r) absent (measured (min_scaled_jacobian a b c d) (largest_cosine (map angle_of (corners a b c d))))
  unfolding quad_metrics folded
  metrics_by p r e f = rw (e, f)

-- the test of what was measured, by numbers that were handed in
pub passes_by : (y : Quality) {least most : Float} (sj k : Float) → y.least_jacobian ≡ least → y.largest_cosine ≡ most
    → (finite sj && finite k && not (sj ≺ least) && not (most ≺ k)) ≡ passes y (measured sj k)
unfolding passes
passes_by y sj k e f = rw (e, f)
