-- `root::lines::guess` meets its contract: its patterns are no NaN's, and what is above zero is no NaN.
-- Assumes nothing.
use Rattle.std.specs.Prelude.{◌+◌, ◌*◌, ◌^◌}
use Rattle.laws.specs.Kit.{arith, rules}
use Rattle.root.proofs.Special.{no_nan_left, above_zero}
use Rattle.laws.specs.Numbers.{no_nan_bits}
use Rattle.root.proofs.lines.guess.Goals as goal

pub float_from_bits-v : goal.float_from_bits-v
float_from_bits-v c = no_nan_bits (c.args.last + 1023 * 2 ^ 52) (omega arith)

pub float_from_bits-near : goal.float_from_bits-near
float_from_bits-near c = no_nan_bits (c.line-p.result * 134217728 + 1023 * 2 ^ 52) (omega (arith, c.line-p.ensures))

pub float_to_bits-fine : goal.float_to_bits-fine
float_to_bits-fine c = no_nan_left _ (above_zero _ c.if-fine.true)
