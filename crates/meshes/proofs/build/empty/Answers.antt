-- What is read before it is written is cleared, and the rings are opened.
use Rattle.meshes.proofs.Builds.{empty_done}
use Rattle.meshes.proofs.build.empty.Goals as goal

pub returns : goal.returns
returns c =
    let a = c.args in
    empty_done a.w.now c.clear_first.new.w c.clear_range.new.w c.clear_range-2.new.w c.open.new.w a.lay.slots a.lay.points c.notes_at.result c.even_at.result
    c.notes_at.ensures c.even_at.ensures c.requires c.clear_first.ensures (c.clear_range.ensures.only, c.clear_range.ensures.by_index) (c.clear_range-2.ensures.only, c.clear_range-2.ensures.by_index) c.open.ensures
