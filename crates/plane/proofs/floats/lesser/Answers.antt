use Rattle.definition.specs.Floats.{◌≺◌, lesser}
use Rattle.plane.proofs.floats.lesser.Goals as goal

pub returns-then-y-x : goal.returns-then-y-x
unfolding lesser ◌≺◌
returns-then-y-x c = rw c.if-y-x.true

pub returns : goal.returns
unfolding lesser ◌≺◌
returns c = rw c.if-y-x.false
