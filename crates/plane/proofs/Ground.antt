-- z is never read: what a node's spot gives is what the node gives.
use Rattle.std.specs.Prelude.{◌≡◌}
use Rattle.laws.specs.Kit.{refl, Float}
use Rattle.definition.specs.Lists.{any}
use Rattle.definition.specs.Plane.{Node, flat, cross, side, parts, shoelace, twice_area, from_to, dist}
use Rattle.definition.specs.Metrics.{jacobian_at, min_scaled_jacobian, corner_of, corners, not_convex, angle_of, quad_metrics}
use Rattle.plane.specs.Points.{node, ground}

-- a spot made of x and y
pub spot_ground : (x y : Float) → node (record { x = x; y = y }) ≡ ground (flat x y)
unfolding node ground flat
spot_ground x y = refl

module _ {s t : Node} (a b : Node) (e : s ≡ ground a) (f : t ≡ ground b) where
  pub from_to_ground : from_to s t ≡ from_to a b
  unfolding from_to ground flat
  from_to_ground = rw (e, f)

  pub dist_ground : dist s t ≡ dist a b
  unfolding dist from_to ground flat
  dist_ground = rw (e, f)

  module _ {u : Node} (c : Node) (g : u ≡ ground c) where
    pub cross_ground : cross s t u ≡ cross a b c
    unfolding cross ground flat
    cross_ground = rw (e, f, g)

    module _ {v : Node} (d : Node) (h : v ≡ ground d) where
      pub parts_ground : parts s t u v ≡ parts a b c d
      unfolding parts side cross ground flat
      parts_ground = rw (e, f, g, h)

      pub twice_area_ground : twice_area s t u v ≡ twice_area a b c d
      unfolding twice_area shoelace ground flat
      twice_area_ground = rw (e, f, g, h)

      pub quad_metrics_ground : quad_metrics s t u v ≡ quad_metrics a b c d
      unfolding any quad_metrics min_scaled_jacobian jacobian_at twice_area shoelace corners corner_of not_convex cross angle_of from_to ground flat
      quad_metrics_ground = rw (e, f, g, h)
