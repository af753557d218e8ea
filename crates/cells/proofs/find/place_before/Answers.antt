-- A place is the first one or not.
use native.Mathlib.Omega.{arith}
use borrow.Author.Tests.{eq-eqb, ne_eqb}
use Rattle.cells.specs.Walk.{before}
use Rattle.cells.proofs.find.place_before.Goals as goal

pub returns-then-k-eq0 : goal.returns-then-k-eq0
unfolding before
returns-then-k-eq0 c = let a = c.args in (rw (eq-eqb a.k 0 c.if-k-eq0.true), omega arith)

pub returns : goal.returns
unfolding before
returns c = let a = c.args in (rw (ne_eqb a.k 0 c.if-k-eq0.false), omega arith)
