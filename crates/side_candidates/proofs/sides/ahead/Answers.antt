use mathlib.Core.Path.{sym}
use mathlib.Core.Bool.{and-false, and-true}
use Rattle.definition.specs.Floats.{◌⊗◌, ◌⊖◌, ◌≺◌, 0·25, 2·5, f64}
use Rattle.definition.specs.Numbers.{side_along, side_across}
use Rattle.definition.specs.Candidates.{ahead}
use Rattle.plane.specs.Vectors.{vec}
use Rattle.side_candidates.proofs.sides.ahead.Goals as goal

pub returns-then-along-target : goal.returns-then-along-target
unfolding ahead side_along side_across ◌⊗◌ ◌⊖◌ ◌≺◌ 0·25 2·5 f64 vec
returns-then-along-target c =
    rw (← c.dot-along.ensures, c.if-along-target.true, and-false)

pub returns-then-abs-along : goal.returns-then-abs-along
unfolding ahead side_along side_across ◌⊗◌ ◌⊖◌ ◌≺◌ 0·25 2·5 f64 vec
returns-then-abs-along c =
    rw (← c.dot-along.ensures, ← c.abs.ensures, c.if-along-target.false, c.if-abs-along.true, and-false)

pub returns-then-far-y : goal.returns-then-far-y
unfolding ahead side_along side_across ◌⊗◌ ◌⊖◌ ◌≺◌ 0·25 2·5 f64 vec
returns-then-far-y c =
    rw (← c.norm-far.ensures, c.if-far-y.true)

pub returns : goal.returns
unfolding ahead side_along side_across ◌⊗◌ ◌⊖◌ ◌≺◌ 0·25 2·5 f64 vec
returns c =
    rw (← c.norm-far.ensures, ← c.dot-along.ensures, ← c.abs.ensures, c.if-along-target.false, c.if-abs-along.false, c.if-far-y.false) (sym (and-true _))
