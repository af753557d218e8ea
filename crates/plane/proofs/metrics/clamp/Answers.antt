use Rattle.definition.specs.Floats.{◌≺◌, 1·0, f64}
use Rattle.definition.specs.Metrics.{clamp}
use Rattle.plane.proofs.metrics.clamp.Goals as goal

pub returns-then-c : goal.returns-then-c
unfolding clamp ◌≺◌ 1·0 f64
returns-then-c c = rw c.if-c.true

pub returns-then-c-2 : goal.returns-then-c-2
unfolding clamp ◌≺◌ 1·0 f64
returns-then-c-2 c = rw (c.if-c.false, c.if-c-2.true)

pub returns : goal.returns
unfolding clamp ◌≺◌ 1·0 f64
returns c = rw (c.if-c.false, c.if-c-2.false)
