-- Only the note's word changes.
use Rattle.front_edges.proofs.Noting.{none_written}
use Rattle.front_edges.proofs.note_none.Goals as goal

pub returns : goal.returns
returns c =
    let a = c.args in
    none_written a.w.now c.mark.new.w a.lay.slots a.lay.points a.u c.requires c.mark.ensures
