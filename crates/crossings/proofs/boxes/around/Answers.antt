use Rattle.laws.specs.Kit.{subst, rules, Float}
use Rattle.definition.specs.Call.{point_at}
use Rattle.plane.specs.Points.{spot_x, spot_y}
use Rattle.crossings.specs.Boxes.{Starts}
use Rattle.crossings.proofs.boxes.around.Goals as goal

pub returns : goal.returns
returns c =
    let a = c.args in
    let x = spot_x c.at-t.result (point_at a.q.now a.i) c.at-t.ensures in
    let y = spot_y c.at-t.result (point_at a.q.now a.i) c.at-t.ensures in
    record {
      left = subst (λ (z : Float). Starts a.i z c.alone.result) x c.alone.ensures;
      right = subst (λ (z : Float). Starts a.i z c.alone-2.result) x c.alone-2.ensures;
      low = subst (λ (z : Float). Starts a.i z c.alone-3.result) y c.alone-3.ensures;
      high = subst (λ (z : Float). Starts a.i z c.alone-4.result) y c.alone-4.ensures;
    }
