use Rattle.std.specs.Prelude.{◌+◌, ◌*◌}
use Rattle.laws.specs.Kit.{ap₂, arith, rules, nan}
use Rattle.definition.specs.Floats.{0·0}
use Rattle.definition.specs.Plane.{flat}
use Rattle.definition.specs.Call.{point_at}
use Rattle.laws.specs.Lists.{get_d_any}
use Rattle.plane.specs.Points.{node, ground}
use Rattle.plane.proofs.points.at.Goals as goal

pub returns : goal.returns
unfolding node ground point_at flat
returns c =
    let q = c.args.q.now in
    let a = c.args.a in
    ap₂ flat (get_d_any q (3 * a) nan 0·0 (omega arith)) (get_d_any q (3 * a + 1) nan 0·0 (omega arith))
