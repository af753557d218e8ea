-- The code's comparison is the definition's.
use Rattle.definition.specs.Floats.{◌≺◌, 1e-9, 1·0, f64}
use Rattle.definition.specs.Numbers.{tiny_size}
use Rattle.mesher.proofs.setup.bucket_of.Goals as goal

pub returns-then-size : goal.returns-then-size
unfolding tiny_size ◌≺◌ 1e-9 1·0 f64
returns-then-size c = rw c.if-size.true

pub returns : goal.returns
unfolding tiny_size ◌≺◌ 1e-9 1·0 f64
returns c = rw c.if-size.false
