use Rattle.std.specs.Prelude.{◌<◌, ◌≤◌}
use Rattle.laws.specs.Kit.{ℕ, get_or}
use Rattle.refusals.proofs.unknown_node.Given as goal

abbrev pub invariant-loop-i : goal.invariant-loop-i
invariant-loop-i l = (l.i ≤ l.n) × ((k : ℕ) → k < l.i → get_or l.triangles k 0 < l.given)
