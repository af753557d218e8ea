-- The least scaled Jacobian by four columns, of which two corners share each.
use Rattle.std.specs.Prelude.{◌≡◌}
use Rattle.laws.specs.Kit.{false, Float, inf}
use Rattle.definition.specs.Floats.{lesser}
use Rattle.definition.specs.Plane.{Node, Vec}
use Rattle.definition.specs.Metrics.{corner, c0, c1, c2, c3, d0, d1, weights, scaled, jacobian_at, min_scaled_jacobian}
use Rattle.plane.specs.Columns.{column}

-- a first column turns on the second coordinate of its corner alone, and a second column on the first
pub least_by : (a b c d : Node) {low high left right : Vec} {p q r s : Float}
    → low ≡ column (weights (d0 c0)) a b c d → high ≡ column (weights (d0 c2)) a b c d
    → left ≡ column (weights (d1 c0)) a b c d → right ≡ column (weights (d1 c2)) a b c d
    → p ≡ scaled low left → q ≡ scaled low right → r ≡ scaled high right → s ≡ scaled high left
    → lesser (lesser (lesser (lesser (inf false) p) q) r) s ≡ min_scaled_jacobian a b c d
unfolding min_scaled_jacobian jacobian_at column weights d0 d1 c0 c1 c2 c3 corner
least_by a b c d l h m n e f g k = rw (e, f, g, k, l, h, m, n)
