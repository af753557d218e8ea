-- The sum, less p where it is not below p.
use Rattle.laws.specs.Kit.{sym, arith}
use Rattle.blocked_edges.proofs.Edges.{list_low, list_high}
use Rattle.blocked_edges.proofs.list_of.Goals as goal

pub returns-then-sum-p : goal.returns-then-sum-p
returns-then-sum-p c =
    let a = c.args in
    (sym (list_low a.p (a.u, a.v) c.if-sum-p.true), c.if-sum-p.true)

pub returns : goal.returns
returns c =
    let a = c.args in
    let o = c.requires.edge.order in
    let m = c.requires.edge.below in
    (sym (list_high a.p (a.u, a.v) c.if-sum-p.false), omega (arith, c.if-sum-p.false, o, m))
