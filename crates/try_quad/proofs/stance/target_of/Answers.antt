use Rattle.definition.specs.Floats.{◌≺◌, 1e-12, f64}
use Rattle.definition.specs.Numbers.{tiny_length}
use Rattle.definition.specs.Attempt.{target_of}
use Rattle.try_quad.proofs.stance.target_of.Goals as goal

pub returns-then-size : goal.returns-then-size
unfolding target_of tiny_length ◌≺◌ 1e-12 f64
returns-then-size c = λ settings k. rw (k, c.if-size.true)

pub returns : goal.returns
unfolding target_of tiny_length ◌≺◌ 1e-12 f64
returns c = λ settings k. rw (k, c.if-size.false)
