use Rattle.laws.specs.Kit.{◌∙◌, rules}
use Rattle.definition.specs.Plane.{flat}
use Rattle.plane.proofs.Ground.{spot_ground, dist_ground}
use Rattle.plane.proofs.vectors.dist.Goals as goal

pub returns : goal.returns
returns c =
    let args = c.args in
    let p = flat args.x args.y in
    let g = spot_ground args.x args.y in
    let h = c.at.ensures in
    (c.dist_of.ensures.0 ∙ dist_ground _ p h g, c.dist_of.ensures.1 ∙ dist_ground p _ g h)
