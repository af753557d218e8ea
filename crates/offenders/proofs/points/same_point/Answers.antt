-- `offenders::points::same_point` meets its contract: x, y and z in turn. Assumes nothing.
use Rattle.std.proofs.Common.{sym, ◌∙◌}
use Rattle.definition.specs.Call.{point_at}
use Rattle.accept.specs.Accept.{same_point}
use Rattle.offenders.proofs.points.same_point.Goals as goal

pub returns-then-not-same_bits : goal.returns-then-not-same_bits
unfolding same_point point_at
returns-then-not-same_bits c = rw (sym c.same_bits.ensures ∙ c.if-not-same_bits.true)

pub returns-then-not-same_bits-2 : goal.returns-then-not-same_bits-2
unfolding same_point point_at
returns-then-not-same_bits-2 c = rw (sym c.same_bits.ensures ∙ c.if-not-same_bits.false, sym c.same_bits-2.ensures ∙ c.if-not-same_bits-2.true)

pub returns : goal.returns
unfolding same_point point_at
returns c = rw (sym c.same_bits.ensures ∙ c.if-not-same_bits.false, sym c.same_bits-2.ensures ∙ c.if-not-same_bits-2.false) c.same_bits-3.ensures
