use Rattle.std.specs.Prelude.{◌≡◌, ◌<◌, ◌≤◌}
use Rattle.laws.specs.Kit.{ℕ}
use Rattle.sorting.specs.Places.{key_at}
use Rattle.balance.proofs.runs.past.Given as goal

abbrev pub invariant-loop-j : goal.invariant-loop-j
invariant-loop-j l = (m : ℕ) → l.i ≤ m → m < l.j → key_at l.w m ≡ l.k
