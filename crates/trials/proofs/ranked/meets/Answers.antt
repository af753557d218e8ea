-- Each return goes by the first pair of nodes that are one.
use borrow.Author.Tests.{eq-eqb, ne_eqb}
use Rattle.definition.specs.Lists.{any, contains}
use Rattle.laws.specs.Bools.{or-false}
use Rattle.trials.proofs.ranked.meets.Goals as goal

pub returns-then-c-a : goal.returns-then-c-a
unfolding any contains
returns-then-c-a c = rw (eq-eqb _ _ c.if-c-a.true)

pub returns-then-c-b : goal.returns-then-c-b
unfolding any contains
returns-then-c-b c = rw (ne_eqb _ _ c.if-c-a.false, eq-eqb _ _ c.if-c-b.true)

pub returns-then-d-a : goal.returns-then-d-a
unfolding any contains
returns-then-d-a c = rw (ne_eqb _ _ c.if-c-a.false, ne_eqb _ _ c.if-c-b.false, eq-eqb _ _ c.if-d-a.true)

pub returns-then-d-b : goal.returns-then-d-b
unfolding any contains
returns-then-d-b c = rw (ne_eqb _ _ c.if-c-a.false, ne_eqb _ _ c.if-c-b.false, ne_eqb _ _ c.if-d-a.false, eq-eqb _ _ c.if-d-b.true)

pub returns : goal.returns
unfolding any contains
returns c = rw (ne_eqb _ _ c.if-c-a.false, ne_eqb _ _ c.if-c-b.false, ne_eqb _ _ c.if-d-a.false, ne_eqb _ _ c.if-d-b.false) (or-false _)
