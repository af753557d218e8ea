use Rattle.laws.specs.Kit.{◌∙◌, rules}
use Rattle.plane.proofs.Ground.{dist_ground}
use Rattle.plane.proofs.vectors.length.Goals as goal

pub returns : goal.returns
returns c =
    let hb = c.at.ensures in
    let ha = c.at-2.ensures in
    (c.dist_of.ensures.0 ∙ dist_ground _ _ hb ha, c.dist_of.ensures.1 ∙ dist_ground _ _ ha hb)
