-- `positions::placed`: ten stores in a slice of zeros.
use mathlib.Core.Path.{ap}
use lib.Ieee.{round, of_bits}
use Rattle.definition.specs.Lists.{below, numbers, flat_map}
use Rattle.definition.specs.Call.{onto}
use Rattle.acceptance.specs.Positions.{plus, point, placed}
use Rattle.acceptance.proofs.positions.placed.Goals as goal

pub returns : goal.returns
unfolding placed onto flat_map below numbers point plus round of_bits
returns c = ap placed c.coordinates-c.ensures
