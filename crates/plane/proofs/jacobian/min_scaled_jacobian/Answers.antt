use Rattle.laws.specs.Kit.{sym, ◌∙◌, ap, rules, neg}
use Rattle.definition.specs.Floats.{1·0, f64}
use Rattle.definition.specs.Plane.{norm, dist}
use Rattle.definition.specs.Metrics.{corner, c0, c2}
use Rattle.plane.proofs.Jacobians.{least_by}
use Rattle.plane.proofs.jacobian.min_scaled_jacobian.Goals as goal

pub returns : goal.returns
unfolding corner c0 c2 1·0 f64 dist
returns c =
    λ sides.
    let low_long = c.norm_by-low_long.ensures (sides.ab.1 ∙ ap norm (sym c.between.ensures)) in
    let high_long = c.norm_by-high_long.ensures (sides.cd.0 ∙ ap norm (sym c.between-2.ensures)) in
    let left_long = c.norm_by-left_long.ensures (sides.da.0 ∙ ap norm (sym c.between-3.ensures)) in
    let right_long = c.norm_by-right_long.ensures (sides.bc.1 ∙ ap norm (sym c.between-4.ensures)) in
    c.least.ensures
    ∙ least_by _ _ _ _
    (c.first_column-low.ensures (neg 1·0)) (c.first_column-high.ensures 1·0)
    (c.second_column-left.ensures (neg 1·0)) (c.second_column-right.ensures 1·0)
    (c.scaled.ensures low_long left_long) (c.scaled-2.ensures low_long right_long)
    (c.scaled-3.ensures high_long right_long) (c.scaled-4.ensures high_long left_long)
