use Rattle.definition.specs.Floats.{◌≼◌}
use Rattle.laws.specs.Kit.{arith}
use Rattle.sheet_steps.proofs.places.reached.Goals as goal

pub returns-then-bound-sj : goal.returns-then-bound-sj
unfolding ◌≼◌
returns-then-bound-sj c = (rw c.if-bound-sj.true, omega arith)

pub returns : goal.returns
unfolding ◌≼◌
returns c = (rw c.if-bound-sj.false, omega arith)
