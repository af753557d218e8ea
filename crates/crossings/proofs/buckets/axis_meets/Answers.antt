use Rattle.crossings.proofs.Tests.{axis_is}
use Rattle.laws.specs.Kit.{rules}
use Rattle.crossings.proofs.buckets.axis_meets.Goals as goal

pub returns : goal.returns
returns c =
    let a = c.args in
    axis_is a.bucket a.p a.q a.r a.s _ _ _ _ c.ranges_meet.result c.ranges_meet.ensures
    c.bucket_key.ensures c.bucket_key-2.ensures c.bucket_key-3.ensures c.bucket_key-4.ensures
