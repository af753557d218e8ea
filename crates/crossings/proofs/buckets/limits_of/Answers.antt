use Rattle.definition.specs.Call.{point_at}
use Rattle.plane.specs.Points.{spot_x, spot_y}
use Rattle.laws.specs.Kit.{rules}
use Rattle.crossings.proofs.buckets.limits_of.Goals as goal

pub returns : goal.returns
returns c =
    let a = c.args in
    let ux = spot_x c.at-a.result (point_at a.q.now a.u) c.at-a.ensures in
    let uy = spot_y c.at-a.result (point_at a.q.now a.u) c.at-a.ensures in
    let vx = spot_x c.at-b.result (point_at a.q.now a.v) c.at-b.ensures in
    let vy = spot_y c.at-b.result (point_at a.q.now a.v) c.at-b.ensures in
    record {
      left = rw (← ux, ← vx) c.below.ensures;
      right = rw (← ux, ← vx) c.above.ensures;
      low = rw (← uy, ← vy) c.below-2.ensures;
      high = rw (← uy, ← vy) c.above-2.ensures;
    }
