use Rattle.regions.proofs.Seeds.{marks_cleared}
use Rattle.regions.proofs.lists.clear_marks.Goals as goal

pub returns : goal.returns
returns c =
    let a = c.args in
    marks_cleared a.w.now c.clear_range.new.w a.lay.slots a.lay.points a.n c.marks_at-from.result c.marks_at-from.ensures c.requires c.clear_range.ensures.only c.clear_range.ensures.by_index
