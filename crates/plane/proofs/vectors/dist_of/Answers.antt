use Rattle.laws.specs.Kit.{◌∙◌, ap, rules}
use Rattle.definition.specs.Plane.{norm, dist}
use Rattle.plane.proofs.Mirror.{dist_mirror}
use Rattle.plane.proofs.vectors.dist_of.Goals as goal

pub returns : goal.returns
unfolding dist
returns c =
    let h = c.norm.ensures ∙ ap norm c.between.ensures in
    (h, h ∙ dist_mirror _ _)
