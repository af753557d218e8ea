use Rattle.flips.proofs.Flips.{third_a, third_b, third_c}
use borrow.Author.Rules.{rules}
use Rattle.flips.proofs.flip.third.Goals as goal

pub returns-then-off_edge : goal.returns-then-off_edge
returns-then-off_edge c =
    let a = c.args in
    third_a a.u a.v _ _ _ c.node-a.result c.off_edge.result c.node-a.ensures c.off_edge.ensures c.if-off_edge.true

pub returns-then-off_edge-2 : goal.returns-then-off_edge-2
returns-then-off_edge-2 c =
    let a = c.args in
    third_b a.u a.v _ _ _ c.node-a.result c.off_edge.result c.node-a.ensures c.off_edge.ensures c.if-off_edge.false
    c.node-b.result c.off_edge-2.result c.node-b.ensures c.off_edge-2.ensures c.if-off_edge-2.true

pub returns : goal.returns
returns c =
    let a = c.args in
    third_c a.u a.v _ _ _ c.node-a.result c.off_edge.result c.node-a.ensures c.off_edge.ensures c.if-off_edge.false
    c.node-b.result c.off_edge-2.result c.node-b.ensures c.off_edge-2.ensures c.if-off_edge-2.false c.node.result c.node.ensures
