use Rattle.std.specs.Prelude.{◌-◌}
use Rattle.sorting.specs.Places.{key_at}
use Rattle.balance.proofs.Passes.{Passed}
use Rattle.balance.proofs.runs.first_uneven.Given as goal

abbrev pub invariant-loop-i : goal.invariant-loop-i
invariant-loop-i l = Passed (key_at l.w) l.n l.i

abbrev pub decreases-loop-i : goal.decreases-loop-i
decreases-loop-i l = l.n - l.i
