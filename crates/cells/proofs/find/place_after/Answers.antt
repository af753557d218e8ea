-- A place is the last one or not.
use Prim.Native.Nat.{◌+◌}
use native.Mathlib.Omega.{arith}
use borrow.Author.Tests.{eq-eqb, ne_eqb}
use Rattle.cells.specs.Walk.{after}
use Rattle.cells.proofs.find.place_after.Goals as goal

pub returns-then-k-n : goal.returns-then-k-n
unfolding after
returns-then-k-n c = let a = c.args in (rw (eq-eqb (a.k + 1) a.n c.if-k-n.true), omega arith)

pub returns : goal.returns
unfolding after
returns c = let a = c.args in (rw (ne_eqb (a.k + 1) a.n c.if-k-n.false), omega arith)
