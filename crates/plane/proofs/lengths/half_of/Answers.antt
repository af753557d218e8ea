use Rattle.laws.specs.Kit.{false≢true, rules}
use Rattle.definition.specs.Floats.{◌⊕◌, ◌≼◌, f64, 0·0}
use Rattle.rounding.specs.Halves.{smallest, largest}
use Rattle.rounding.proofs.Halves.{half_zero, half_size}
use Rattle.plane.proofs.lengths.half_of.Goals as goal

pub returns-then-x : goal.returns-then-x
unfolding ◌⊕◌ 0·0 f64
returns-then-x c = λ _. half_zero _ _ c.if-x-u.true c.if-x.true

pub returns-then-size : goal.returns-then-size
unfolding ◌⊕◌ ◌≼◌ smallest largest f64
returns-then-size c =
    λ e.
    half_size _ _ c.well_formed.0.1 c.if-x-u.true (rw (← c.abs-size.ensures) c.if-size.true) (rw (← c.abs-size.ensures) e)

pub returns-else-size : goal.returns-else-size
returns-else-size c = λ e. absurd (false≢true e)

pub returns-else-x-u : goal.returns-else-x-u
returns-else-x-u c = λ e. absurd (false≢true e)
