use mathlib.Core.Path.{◌≡◌}
use Prim.Native.Nat.{ℕ, ◌+◌, ◌≤◌, ◌<◌}
use lib.ListN.{get_or}
use Rattle.candidates.proofs.marks.next_told.Given as goal

-- the words of the nodes passed are 0
abbrev pub invariant-loop-v : goal.invariant-loop-v
invariant-loop-v l = (u : ℕ) → l.from ≤ u → u < l.v → get_or l.w (l.b + u) 0 ≡ 0
