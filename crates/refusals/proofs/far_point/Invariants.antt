use Rattle.std.specs.Prelude.{◌≡◌, ◌<◌, ◌≤◌}
use Rattle.laws.specs.Kit.{false, ℕ}
use Rattle.definition.specs.Call.{point_at, outside}
use Rattle.refusals.proofs.far_point.Given as goal

abbrev pub invariant-loop-i : goal.invariant-loop-i
invariant-loop-i l = (l.i ≤ l.given) × ((k : ℕ) → k < l.i → outside (point_at l.points k) ≡ false)
