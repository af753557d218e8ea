-- The two inside tests, by the signs of cross products that were computed before.
use Rattle.std.specs.Prelude.{◌≡◌, ◌&&◌, ◌||◌, ◌∷◌}
use Rattle.laws.specs.Kit.{not, [], Float}
use Rattle.definition.specs.Lists.{any}
use Rattle.definition.specs.Plane.{Node, cross, positive, negative, point_strictly_inside, inside_quad}

module _ (a b c : Node) {x y : Float} where
  pub strictly_by : {z : Float} (p : Node) → x ≡ cross a b p → y ≡ cross b c p → z ≡ cross c a p
      → point_strictly_inside a b c p
      ≡ (positive x && positive y && positive z || negative x && negative y && negative z)
  unfolding point_strictly_inside
  strictly_by p e f g = rw (e, f, g)

  pub inside_by : {z w : Float} (d p : Node) → x ≡ cross a b p → y ≡ cross b c p → z ≡ cross c d p → w ≡ cross d a p
      → inside_quad a b c d p ≡ not (any positive (x ∷ y ∷ z ∷ w ∷ []) && any negative (x ∷ y ∷ z ∷ w ∷ []))
  unfolding inside_quad
  inside_by d p e f g h = rw (e, f, g, h)
