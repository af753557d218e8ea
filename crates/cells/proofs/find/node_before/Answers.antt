-- The node is read at the place that the kind gives.
use Rattle.cells.proofs.Views.{read_before}
use Rattle.cells.proofs.find.node_before.Goals as goal

pub returns : goal.returns
returns c =
    let a = c.args in
    read_before a.w.now a.s a.c _ _ _ c.wide.ensures c.place_before-k.ensures.0 c.wide-2.ensures
