-- `root::exact::spare` meets its contract, by the law of leading zeros. Assumes nothing.
use Rattle.laws.specs.Kit.{arith}
use lib.Count.{leading_le}
use Rattle.rounding.proofs.Shift.{leading}
use Rattle.root.proofs.exact.spare.Goals as goal

pub overflow_sub-result : goal.overflow_sub-result
overflow_sub-result c = (leading c.args.m c.requires.0 c.requires.1).0

pub returns : goal.returns
returns c = (leading c.args.m c.requires.0 c.requires.1).1

pub overflow_cast-result : goal.overflow_cast-result
overflow_cast-result c = omega (arith, leading_le 64 c.args.m)
