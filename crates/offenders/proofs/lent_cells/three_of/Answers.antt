-- `offenders::lent_cells::three_of` meets its contract. Assumes nothing.
use Rattle.definition.specs.Cells.{new_tri}
use Rattle.definition.specs.Call.{tri_at}
use Rattle.offenders.proofs.lent_cells.three_of.Goals as goal

pub returns : goal.returns
unfolding tri_at new_tri
returns c = record { at0 = c.spot_of-n0.ensures; at1 = c.spot_of-n1.ensures; at2 = c.spot_of-n2.ensures }

pub spot_of-n0-requires : goal.spot_of-n0-requires
spot_of-n0-requires c = c.requires.in0

pub spot_of-n1-requires : goal.spot_of-n1-requires
spot_of-n1-requires c = c.requires.in1

pub spot_of-n2-requires : goal.spot_of-n2-requires
spot_of-n2-requires c = c.requires.in2
