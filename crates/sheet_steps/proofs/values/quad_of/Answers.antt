use Rattle.sheet_steps.specs.Values.{worst_in, quad_of}
use Rattle.sheet_steps.proofs.values.quad_of.Goals as goal

pub returns-in-None : goal.returns-in-None
unfolding quad_of worst_in
returns-in-None c = rw c.in-None.is

pub returns-in-Some : goal.returns-in-Some
unfolding quad_of worst_in
returns-in-Some c = rw c.in-Some.is
