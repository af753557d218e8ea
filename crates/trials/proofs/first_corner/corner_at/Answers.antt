-- Both columns at the corner, of the spots of the three nodes.
use mathlib.Core.Path.{◌∙◌}
use Rattle.definition.specs.Metrics.{corner}
use Rattle.plane.specs.Vectors.{vec}
use Rattle.trials.proofs.Corners.{corner_by}
use Rattle.trials.proofs.first_corner.corner_at.Goals as goal

pub returns : goal.returns
unfolding corner vec
returns c =
    let e = c.at-u.ensures in
    let f = c.at-v.ensures in
    let g = c.at-t.ensures in
    c.scaled.ensures ∙ corner_by _ _ _ _ _ _ e f g c.first_sum.ensures c.first_sum-2.ensures c.second_sum.ensures c.second_sum-2.ensures
