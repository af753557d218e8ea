use Rattle.plane.proofs.Laws.{one_over_zero}
use Rattle.laws.specs.Kit.{rules}
use Rattle.plane.proofs.jacobian.least.Goals as goal

pub returns : goal.returns
returns c =
    rw (c.lesser-4.ensures, c.lesser-3.ensures, c.lesser-2.ensures, c.lesser.ensures, one_over_zero)
