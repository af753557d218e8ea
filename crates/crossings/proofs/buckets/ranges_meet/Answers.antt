use Rattle.crossings.proofs.Tests.{meet_rest, meet_not}
use Rattle.laws.specs.Kit.{rules}
use Rattle.crossings.proofs.buckets.ranges_meet.Goals as goal

pub returns-then-lesser-greater : goal.returns-then-lesser-greater
returns-then-lesser-greater c =
    let a = c.args in
    meet_rest a.p a.q a.r a.s c.lesser.result c.greater.result c.lesser.ensures c.greater.ensures c.if-lesser-greater.true
    c.lesser-then-lesser-greater.result c.greater-then-lesser-greater.result c.lesser-then-lesser-greater.ensures c.greater-then-lesser-greater.ensures

pub returns : goal.returns
returns c =
    let a = c.args in
    meet_not a.p a.q a.r a.s c.lesser.result c.greater.result c.lesser.ensures c.greater.ensures c.if-lesser-greater.false
