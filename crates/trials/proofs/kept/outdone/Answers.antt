-- Only where all places are taken are two numbers compared.
use mathlib.Core.Bool.{false≢true}
use Prim.{absurd}
use native.Mathlib.Omega.{arith}
use Rattle.definition.specs.Floats.{◌≺◌}
use Rattle.trials.proofs.kept.outdone.Goals as goal

-- some are wanted still
pub returns-then-count-pairs : goal.returns-then-count-pairs
returns-then-count-pairs c = (λ e. absurd (false≢true e), λ h. absurd (omega (arith, h.full, c.if-count-pairs.true)))

-- none are kept
pub returns-then-count-eq0 : goal.returns-then-count-eq0
returns-then-count-eq0 c = (λ e. absurd (false≢true e), λ h. absurd (omega (arith, h.some, c.if-count-eq0.true)))

pub returns : goal.returns
unfolding ◌≺◌
returns c = (λ e. record { full = omega arith; some = omega arith; below_last = e }, λ h. h.below_last)
