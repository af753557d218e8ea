use Rattle.std.proofs.Common.{ap, ◌∙◌, not}
use lib.Ieee.{Float}
use Rattle.definition.specs.Floats.{◌≺◌}
use Rattle.definition.specs.Call.{point_at}
use Rattle.definition.specs.Plane.{flat}
use Rattle.plane.proofs.Ground.{spot_ground, dist_ground}
use Rattle.live_regions.proofs.live.near_node.Goals as goal

pub returns : goal.returns
returns c =
    let a = c.args in
    let o = a.o.at in
    c.has.ensures ∙ ap (λ (x : Float). not (a.o.r ≺ x)) (dist_ground (point_at a.q.now a.v) (flat o.x o.y) c.at.ensures (spot_ground o.x o.y))
