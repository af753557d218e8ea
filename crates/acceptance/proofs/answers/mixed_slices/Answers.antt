-- `answers::mixed_slices`: the slices one after the other.
use Rattle.acceptance.proofs.Folding.{slice_by_slice}
use Rattle.acceptance.proofs.answers.mixed_slices.Goals as goal

pub returns : goal.returns
returns c =
    let a = c.args in
    slice_by_slice
    a.start c.mixed_all-placed.result c.mixed_all-left.result c.mixed_all-sizes.result c.mixed_all.result
    a.quads.now a.out.now a.components.now a.points.now
    c.mixed_all-placed.ensures c.mixed_all-left.ensures c.mixed_all-sizes.ensures c.mixed_all.ensures
