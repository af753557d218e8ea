use Prim.Native.Nat.{◌-◌, ◌≤◌}
use native.Mathlib.Omega.{arith}
use borrow.Author.Rules.{rules}
use Rattle.mesher.specs.Showing.{Back}
use Rattle.mesher.proofs.Showing.{back_start, back_more}
use Rattle.previews.proofs.put_back.Given as goal

abbrev pub invariant-loop-i : goal.invariant-loop-i
invariant-loop-i l = (l.i ≤ l.n) × Back l.initial.points l.points l.kept l.from l.i
