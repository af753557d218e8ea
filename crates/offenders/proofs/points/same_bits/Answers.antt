-- `offenders::points::same_bits` meets its contract; the code reads past an end as a NaN, and the definition as zero.
-- Assumes nothing.
use lib.Ieee.{nan}
use Rattle.definition.specs.Floats.{0·0}
use Rattle.laws.specs.Lists.{get_d_any}
use Rattle.accept.specs.Accept.{same_bits}
use Rattle.offenders.proofs.points.same_bits.Goals as goal

pub returns : goal.returns
unfolding same_bits
returns c =
    rw (c.bits_of.ensures, c.bits_of-2.ensures, get_d_any c.args.given.now c.args.k nan 0·0 c.requires.0, get_d_any c.args.points.now c.args.k nan 0·0 c.requires.1)
