-- The kind is 3 or not.
use native.Mathlib.Omega.{arith}
use lib.ListN.{get_or}
use borrow.Author.Tests.{eq-eqb, ne_eqb}
use Rattle.cells.proofs.find.tri_count.Goals as goal

pub returns-then-w-i-eq3 : goal.returns-then-w-i-eq3
returns-then-w-i-eq3 c = let a = c.args in (rw (eq-eqb (get_or a.w.now a.i 0) 3 c.if-w-i-eq3.true), omega arith)

pub returns : goal.returns
returns c = let a = c.args in (rw (ne_eqb (get_or a.w.now a.i 0) 3 c.if-w-i-eq3.false), omega arith)
