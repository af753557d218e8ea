-- The metrics by their cases, the tests of area and corners, a quad's side lengths,
-- and their products at its corners.
use Rattle.std.specs.Prelude.{◌≡◌, ◌||◌, Option, Some, None}
use Rattle.laws.specs.Kit.{Bool}
use Rattle.definition.specs.Floats.{◌≼◌}
use Rattle.definition.specs.Lists.{any}
use Rattle.definition.specs.Numbers.{tiny_cross}
use Rattle.definition.specs.Plane.{Node, dist, twice_area}
use Rattle.definition.specs.Metrics as metrics
use Rattle.definition.specs.Metrics.{absent, measured, corner_of, corners, not_convex, angle_of}
use Rattle.plane.specs.declared.lengths.Lengths.{Lengths}
use Rattle.plane.specs.declared.metrics.Metrics.{Metrics}
use Rattle.plane.specs.declared.metrics.Sides.{Sides}

-- a quad's metrics: absent, or the scaled Jacobian and the largest cosine
unfoldable pub metrics_of_enum : Option Metrics → metrics.Metrics
metrics_of_enum None = absent
metrics_of_enum (Some t) = measured t.jacobian t.cosine

-- the area or a corner is zero or negative
unfoldable pub folded : Node → Node → Node → Node → Bool
folded a b c d = (twice_area a b c d ≼ tiny_cross) || any not_convex (corners a b c d)

-- the lengths of the sides of the quad a b c d, each the same from either end
pub record LengthsOf (l : Lengths) (a b c d : Node) : Type 0 where
  pub ab : (l.«ab» ≡ dist a b) × (l.«ab» ≡ dist b a)
  pub bc : (l.«bc» ≡ dist b c) × (l.«bc» ≡ dist c b)
  pub cd : (l.«cd» ≡ dist c d) × (l.«cd» ≡ dist d c)
  pub da : (l.«da» ≡ dist d a) × (l.«da» ≡ dist a d)

-- at each corner of the quad a b c d the product of the lengths of its two sides
pub record SidesOf (s : Sides) (a b c d : Node) : Type 0 where
  pub at_a : s.at_a ≡ (angle_of (corner_of d a b)).sides
  pub at_b : s.at_b ≡ (angle_of (corner_of a b c)).sides
  pub at_c : s.at_c ≡ (angle_of (corner_of b c d)).sides
  pub at_d : s.at_d ≡ (angle_of (corner_of c d a)).sides
