use Rattle.laws.specs.Kit.{rules, of_bits}
use Rattle.definition.specs.Floats.{f64}
use Rattle.edge_candidates.proofs.doubles.float_of.Goals as goal

pub returns : goal.returns
unfolding of_bits f64
returns c = search rules

pub float_from_bits-result : goal.float_from_bits-result
float_from_bits-result c = c.requires
