use Rattle.laws.specs.Kit.{refl}
use Rattle.definition.specs.Floats.{◌⊕◌}
use Rattle.definition.specs.Candidates.{plus}
use Rattle.plane.specs.Vectors.{vec}
use Rattle.edge_candidates.proofs.wishes.plus.Goals as goal

pub returns : goal.returns
unfolding vec plus ◌⊕◌
returns c =
    refl
