-- `f64::put`: the bits are written.
use Rattle.laws.specs.Kit.{sym}
use Rattle.writing.proofs.digits.F64Shown.put.Goals as goal

pub returns : goal.returns
returns c = rw (sym c.bits_of.ensures) c.put.ensures
