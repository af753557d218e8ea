use Rattle.laws.specs.Kit.{◌∙◌, rules}
use Rattle.plane.proofs.Measured.{largest_by}
use Rattle.plane.proofs.metrics.largest_cosine.Goals as goal

pub returns : goal.returns
returns c =
    λ s.
    c.most.ensures
    ∙ largest_by _ _ _ _ (c.cosine.ensures s.at_a) (c.cosine-2.ensures s.at_b)
    (c.cosine-3.ensures s.at_c) (c.cosine-4.ensures s.at_d)
