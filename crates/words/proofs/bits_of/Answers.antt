-- A NaN differs from itself, and is given its pattern; any other float has its bits.
use Rattle.laws.specs.Numbers.{no_nan, of_nan}
use Rattle.words.proofs.bits_of.Goals as goal

pub returns-then-x : goal.returns-then-x
returns-then-x c = of_nan c.args.x c.if-x.true

pub float_to_bits-result : goal.float_to_bits-result
float_to_bits-result c = no_nan c.args.x c.if-x.false
