-- Two comparisons, each as the definition has it.
use Rattle.definition.specs.Floats.{◌≼◌}
use Rattle.definition.specs.Call.{ranges}
use Rattle.refusals.proofs.ranges.Goals as goal

pub returns-then-low-c : goal.returns-then-low-c
unfolding ranges ◌≼◌
returns-then-low-c c = rw c.if-low-c.true

pub returns-else-low-c : goal.returns-else-low-c
unfolding ranges ◌≼◌
returns-else-low-c c = rw c.if-low-c.false
