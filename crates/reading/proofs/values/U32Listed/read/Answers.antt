-- `u32::read`: a node number is a decimal number up to the largest.
use Rattle.reading.proofs.Threes.{node_is}
use Rattle.reading.proofs.values.U32Listed.read.Goals as goal

pub returns : goal.returns
returns c = rw node_is c.decimal.ensures
