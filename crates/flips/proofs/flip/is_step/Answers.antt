use Rattle.flips.proofs.Flips.{step_not, step_rest}
use Rattle.flips.proofs.flip.is_step.Goals as goal

pub returns-then-a-u : goal.returns-then-a-u
returns-then-a-u c = let a = c.args in step_not a.a a.b a.u a.v c.if-a-u.true

pub returns : goal.returns
returns c = let a = c.args in step_rest a.a a.b a.u a.v c.if-a-u.false
