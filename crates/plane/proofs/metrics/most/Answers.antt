use Rattle.plane.proofs.Laws.{minus_one_over_zero}
use Rattle.laws.specs.Kit.{rules}
use Rattle.plane.proofs.metrics.most.Goals as goal

pub returns : goal.returns
returns c =
    rw (c.greater-4.ensures, c.greater-3.ensures, c.greater-2.ensures, c.greater.ensures, minus_one_over_zero)
