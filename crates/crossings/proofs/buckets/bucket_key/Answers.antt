use Rattle.definition.specs.Floats.{◌⊘◌}
use Rattle.laws.specs.Kit.{rules}
use Rattle.crossings.proofs.buckets.bucket_key.Goals as goal

pub returns : goal.returns
unfolding ◌⊘◌
returns c = c.floor.ensures
