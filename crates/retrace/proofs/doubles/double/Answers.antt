use Rattle.laws.specs.Kit.{arith, rules}
use Rattle.definition.specs.Trace.{word_limit, double_of}
use Rattle.retrace.proofs.doubles.double.Goals as goal

pub overflow_mul-above : goal.overflow_mul-above
overflow_mul-above c = omega (arith, c.well_formed.1.0)

pub overflow_add-below : goal.overflow_add-below
overflow_add-below c = omega (arith, c.well_formed.0, c.well_formed.1.0)

pub returns : goal.returns
unfolding word_limit double_of
returns c = search rules
