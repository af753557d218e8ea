-- A pattern above infinity's is a NaN's.
use borrow.Author.Rules.{rules}
use Rattle.laws.specs.Kit.{of_bits}
use Rattle.definition.specs.Floats.{f64}
use Rattle.laws.specs.Numbers.{of_nan_bits, no_nan_bits}
use Rattle.words.proofs.float_of.Goals as goal

pub returns-then-bits-gt-INFINITY : goal.returns-then-bits-gt-INFINITY
returns-then-bits-gt-INFINITY c = of_nan_bits c.args.bits c.if-bits-gt-INFINITY.true

pub float_from_bits-result : goal.float_from_bits-result
float_from_bits-result c = no_nan_bits c.args.bits c.if-bits-gt-INFINITY.false

pub returns : goal.returns
unfolding of_bits f64
returns c = search rules
