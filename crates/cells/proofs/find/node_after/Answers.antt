-- The node is read at the place that the kind gives.
use Rattle.cells.proofs.Views.{read_after}
use Rattle.cells.proofs.find.node_after.Goals as goal

pub returns : goal.returns
returns c =
    let a = c.args in
    read_after a.w.now a.s a.c _ _ _ c.wide.ensures c.place_after-k.ensures.0 c.wide-2.ensures
