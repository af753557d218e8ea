use mathlib.Core.Path.{◌≡◌, refl}
use Prim.Native.Nat.{◌-◌, ◌≤◌}
use native.Mathlib.Omega.{arith}
use borrow.Author.Rules.{rules}
use lib.ListN.{length, length-set}
use Rattle.mesher.specs.Showing.{Holds}
use Rattle.mesher.proofs.Showing.{holds_more, holds_end}
use Rattle.previews.proofs.keep.Given as goal

abbrev pub invariant-loop-i : goal.invariant-loop-i
invariant-loop-i l = (length l.kept ≡ length l.initial.kept) × (l.i ≤ 6) × Holds l.points l.kept l.from l.i
