use mathlib.Core.Path.{◌≡◌}
use Prim.Native.Nat.{◌≤◌}
use lib.ListN.{length}
use Rattle.replies.specs.Tells.{filled}
use Rattle.replies.proofs.floats.fill.Given as goal

abbrev pub invariant-loop-i : goal.invariant-loop-i
invariant-loop-i l = (l.i ≤ l.n) × (length l.points ≡ length l.initial.points) × (l.points ≡ filled l.i l.bits l.initial.points)
