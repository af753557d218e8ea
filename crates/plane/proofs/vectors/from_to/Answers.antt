use Rattle.laws.specs.Kit.{◌∙◌, rules}
use Rattle.plane.proofs.Ground.{from_to_ground}
use Rattle.plane.proofs.vectors.from_to.Goals as goal

pub returns : goal.returns
returns c = c.between.ensures ∙ from_to_ground _ _ c.at.ensures c.at-2.ensures
