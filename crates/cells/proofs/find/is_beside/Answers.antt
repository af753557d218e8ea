-- The neighbours of the corner are read and compared.
use Rattle.cells.proofs.Views.{beside_true, beside_rest}
use Rattle.cells.proofs.find.is_beside.Goals as goal

pub returns-then-node_after-v : goal.returns-then-node_after-v
returns-then-node_after-v c =
    let a = c.args in beside_true a.w.now a.s a.c a.v _ c.node_after.ensures c.if-node_after-v.true

pub returns : goal.returns
returns c =
    let a = c.args in beside_rest a.w.now a.s a.c a.v _ _ c.node_after.ensures c.if-node_after-v.false c.node_before.ensures
