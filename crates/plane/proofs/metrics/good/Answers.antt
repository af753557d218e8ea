use Rattle.definition.specs.Floats.{◌≺◌}
use Rattle.laws.specs.Kit.{rules}
use Rattle.plane.proofs.metrics.good.Goals as goal

pub returns-then-sj-least : goal.returns-then-sj-least
unfolding ◌≺◌
returns-then-sj-least c = rw (← c.finite.ensures, c.if-finite.true, ← c.finite-then-finite.ensures, c.if-finite-2.true, c.if-sj-least.true)

pub returns-then-finite-2 : goal.returns-then-finite-2
unfolding ◌≺◌
returns-then-finite-2 c = rw (← c.finite.ensures, c.if-finite.true, ← c.finite-then-finite.ensures, c.if-finite-2.true, c.if-sj-least.false)

pub returns-else-finite-2 : goal.returns-else-finite-2
unfolding ◌≺◌
returns-else-finite-2 c = rw (← c.finite.ensures, c.if-finite.true, ← c.finite-then-finite.ensures, c.if-finite-2.false)

pub returns-else-finite : goal.returns-else-finite
unfolding ◌≺◌
returns-else-finite c = rw (← c.finite.ensures, c.if-finite.false)
