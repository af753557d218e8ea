use Rattle.definition.specs.Floats.{◌≺◌, greater}
use Rattle.plane.proofs.floats.greater.Goals as goal

pub returns-then-x-y : goal.returns-then-x-y
unfolding greater ◌≺◌
returns-then-x-y c = rw c.if-x-y.true

pub returns : goal.returns
unfolding greater ◌≺◌
returns c = rw c.if-x-y.false
