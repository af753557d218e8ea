use Rattle.laws.specs.Kit.{false≢true, rules}
use Rattle.definition.specs.Floats.{0·0, f64}
use Rattle.crossings.proofs.Limits.{in_order}
use Rattle.crossings.proofs.buckets.in_order.Goals as goal

pub returns-then-bucket : goal.returns-then-bucket
unfolding 0·0 f64
returns-then-bucket c = λ e.
    let a = c.args in
    in_order a.bucket a.x a.y c.bucket_key.result c.bucket_key-then-bucket.result c.if-bucket.true c.bucket_key.ensures c.bucket_key-then-bucket.ensures e

pub returns : goal.returns
returns c = λ e. absurd (false≢true e)
