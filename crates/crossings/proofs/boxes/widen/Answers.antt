use Rattle.laws.specs.Kit.{subst, rules, Float}
use Rattle.definition.specs.Call.{point_at}
use Rattle.plane.specs.Points.{spot_x, spot_y}
use Rattle.crossings.specs.Boxes.{up, down, Picks}
use Rattle.crossings.proofs.boxes.widen.Goals as goal

pub returns : goal.returns
returns c =
    let a = c.args in
    let x = spot_x c.at-t.result (point_at a.q.now a.i) c.at-t.ensures in
    let y = spot_y c.at-t.result (point_at a.q.now a.i) c.at-t.ensures in
    record {
      left = subst (λ (z : Float). Picks up a.b.left a.i z c.lower.result) x c.lower.ensures;
      right = subst (λ (z : Float). Picks down a.b.right a.i z c.upper.result) x c.upper.ensures;
      low = subst (λ (z : Float). Picks up a.b.low a.i z c.lower-2.result) y c.lower-2.ensures;
      high = subst (λ (z : Float). Picks down a.b.high a.i z c.upper-2.result) y c.upper-2.ensures;
    }
