-- The length as the points slice has it.
use Rattle.edges.proofs.Lengths.{length_read}
use Rattle.laws.specs.Kit.{rules}
use Rattle.edges.proofs.length_on.Goals as goal

pub returns : goal.returns
returns c =
    λ m t k. length_read _ _ m _ t k _ _ _ c.first_on-u.ensures c.second_on-v.ensures c.length.ensures.0
