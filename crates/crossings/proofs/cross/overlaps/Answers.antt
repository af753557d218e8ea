use Rattle.crossings.proofs.Tests.{over_rest, over_not}
use Rattle.laws.specs.Kit.{rules}
use Rattle.crossings.proofs.cross.overlaps.Goals as goal

pub returns-then-axis_meets : goal.returns-then-axis_meets
returns-then-axis_meets c = λ m e f.
    let a = c.args in
    over_rest a.q.now m a.u a.v a.a a.b a.bucket e f c.at-su.result c.at-sv.result c.at-sa.result c.at-sb.result
    c.at-su.ensures c.at-sv.ensures c.at-sa.ensures c.at-sb.ensures c.axis_meets.result c.axis_meets.ensures c.if-axis_meets.true c.axis_meets-then-axis_meets.result c.axis_meets-then-axis_meets.ensures

pub returns : goal.returns
returns c = λ m e f.
    let a = c.args in
    over_not a.q.now m a.u a.v a.a a.b a.bucket e f c.at-su.result c.at-sv.result c.at-sa.result c.at-sb.result
    c.at-su.ensures c.at-sv.ensures c.at-sa.ensures c.at-sb.ensures c.axis_meets.result c.axis_meets.ensures c.if-axis_meets.false
