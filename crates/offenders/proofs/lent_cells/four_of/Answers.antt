-- `offenders::lent_cells::four_of` meets its contract. Assumes nothing.
use Rattle.definition.specs.Cells.{new_quad}
use Rattle.accept.specs.Call.{corners_at}
use Rattle.offenders.proofs.lent_cells.four_of.Goals as goal

pub returns : goal.returns
unfolding corners_at new_quad
returns c = record { at0 = c.spot_of-n0.ensures; at1 = c.spot_of-n1.ensures; at2 = c.spot_of-n2.ensures; at3 = c.spot_of-n3.ensures }

pub spot_of-n0-requires : goal.spot_of-n0-requires
spot_of-n0-requires c = c.requires.in0

pub spot_of-n1-requires : goal.spot_of-n1-requires
spot_of-n1-requires c = c.requires.in1

pub spot_of-n2-requires : goal.spot_of-n2-requires
spot_of-n2-requires c = c.requires.in2

pub spot_of-n3-requires : goal.spot_of-n3-requires
spot_of-n3-requires c = c.requires.in3
