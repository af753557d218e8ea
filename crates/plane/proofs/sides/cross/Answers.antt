use Rattle.laws.specs.Kit.{◌∙◌, rules}
use Rattle.plane.proofs.Ground.{cross_ground}
use Rattle.plane.proofs.sides.cross.Goals as goal

pub returns : goal.returns
returns c =
    c.cross_of.ensures ∙ cross_ground _ _ c.at.ensures c.at-2.ensures _ c.at-3.ensures
