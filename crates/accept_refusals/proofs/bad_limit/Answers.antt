-- `accept_refusals::bad_limit` meets its contract: both limits are in their ranges, or one is not. Assumes nothing.
use mathlib.Core.Path.{sym, ◌∙◌}
use Rattle.definition.specs.Floats.{f64, 0·5, 0·99, 1·0}
use Rattle.accept_refusals.proofs.bad_limit.Goals as goal

pub returns-then-ranges : goal.returns-then-ranges
unfolding 0·5 0·99 1·0 f64
returns-then-ranges c = rw (sym c.ranges-2.ensures ∙ c.if-ranges.true, c.ranges-then-ranges.ensures)

pub returns : goal.returns
unfolding 0·5 0·99 1·0 f64
returns c = rw (sym c.ranges-2.ensures ∙ c.if-ranges.false)
