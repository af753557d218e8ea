use Rattle.laws.specs.Kit.{sym}
use mathlib.Core.Bool.{or-false}
use Rattle.definition.specs.Lists.{any}
use Rattle.plane.proofs.sides.any_of.Goals as goal

pub returns-then-a : goal.returns-then-a
unfolding any
returns-then-a c = rw c.if-a.true

pub returns-then-b : goal.returns-then-b
unfolding any
returns-then-b c = rw (c.if-a.false, c.if-b.true)

pub returns-then-c : goal.returns-then-c
unfolding any
returns-then-c c = rw (c.if-a.false, c.if-b.false, c.if-c.true)

pub returns : goal.returns
unfolding any
returns c = rw (c.if-a.false, c.if-b.false, c.if-c.false) (sym (or-false _))
