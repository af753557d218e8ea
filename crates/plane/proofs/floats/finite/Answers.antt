use Rattle.laws.specs.Kit.{of_bits, neg, div}
use Rattle.plane.proofs.Laws.{finite_between}
use Rattle.plane.proofs.floats.finite.Goals as goal

pub returns-then-x : goal.returns-then-x
unfolding div neg of_bits
returns-then-x c = rw (finite_between, c.if-x.true)

pub returns : goal.returns
unfolding div neg of_bits
returns c = rw (finite_between, c.if-x.false)
