-- `positions::coordinates`: the literals are the sixteenths, by computation.
use mathlib.Core.Path.{refl}
use lib.Ieee.{round, of_bits}
use Rattle.acceptance.specs.Positions.{plus, minus, positions, coordinates}
use Rattle.acceptance.proofs.positions.coordinates.Goals as goal

pub returns : goal.returns
unfolding coordinates positions plus minus round of_bits
returns c = refl
