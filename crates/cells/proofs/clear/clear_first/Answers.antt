use Rattle.cells.proofs.Clears.{zeros_of}
use Rattle.cells.proofs.clear.clear_first.Goals as goal

pub returns : goal.returns
returns c =
    let a = c.args in
    zeros_of a.w.now c.clear_range.new.w a.n c.clear_range.ensures.only c.clear_range.ensures.by_index
