use mathlib.Core.Path.{ap, ◌∙◌}
use lib.Ieee.{Float}
use Rattle.definition.specs.Call.{point_at}
use Rattle.definition.specs.Floats.{◌⊖◌}
use Rattle.plane.specs.Points.{spot_x, spot_y}
use Rattle.side_candidates.proofs.blocks.Line.through.Goals as goal

pub returns : goal.returns
unfolding ◌⊖◌
returns c =
    let a = c.args in
    let ux = spot_x c.at-s.result (point_at a.q.now a.a) c.at-s.ensures in
    let uy = spot_y c.at-s.result (point_at a.q.now a.a) c.at-s.ensures in
    let vx = spot_x c.at-t.result (point_at a.q.now a.b) c.at-t.ensures in
    let vy = spot_y c.at-t.result (point_at a.q.now a.b) c.at-t.ensures in
    record {
      x = ux;
      y = uy;
      dx = ap (λ (z : Float). z ⊖ c.at-s.result.x) vx ∙ ap (λ (z : Float). (point_at a.q.now a.b).x ⊖ z) ux;
      dy = ap (λ (z : Float). z ⊖ c.at-s.result.y) vy ∙ ap (λ (z : Float). (point_at a.q.now a.b).y ⊖ z) uy;
    }
