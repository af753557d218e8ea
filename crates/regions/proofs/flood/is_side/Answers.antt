use Rattle.regions.proofs.Sides.{side_0, side_1, side_2, side_3}
use Rattle.regions.proofs.flood.is_side.Goals as goal

pub returns-then-same_edge : goal.returns-then-same_edge
returns-then-same_edge c =
    let k = c in let a = k.args in side_0 a.u a.v a.a a.b a.c a.d k.same_edge.result k.same_edge.ensures c.if-same_edge.true

pub returns-then-same_edge-2 : goal.returns-then-same_edge-2
returns-then-same_edge-2 c =
    let l = c in let e = l in let k = e in let a = k.args in side_1 a.u a.v a.a a.b a.c a.d k.same_edge.result k.same_edge.ensures e.if-same_edge.false l.same_edge-2.result l.same_edge-2.ensures c.if-same_edge-2.true

pub returns-then-same_edge-3 : goal.returns-then-same_edge-3
returns-then-same_edge-3 c =
    let m = c in let f = m in let l = f in let e = l in let k = e in let a = k.args in side_2 a.u a.v a.a a.b a.c a.d k.same_edge.result k.same_edge.ensures e.if-same_edge.false l.same_edge-2.result l.same_edge-2.ensures f.if-same_edge-2.false m.same_edge-3.result m.same_edge-3.ensures c.if-same_edge-3.true

pub returns : goal.returns
returns c =
    let g = c in let m = g in let f = m in let l = f in let e = l in let k = e in let a = k.args in side_3 a.u a.v a.a a.b a.c a.d k.same_edge.result k.same_edge.ensures e.if-same_edge.false l.same_edge-2.result l.same_edge-2.ensures f.if-same_edge-2.false m.same_edge-3.result m.same_edge-3.ensures g.if-same_edge-3.false c.same_edge-4.result c.same_edge-4.ensures
