use Rattle.std.specs.Prelude.{◌≡◌, true, ℕ, ◌<◌}
use Rattle.definition.specs.Call.{point_at}
use Rattle.offenders.specs.Points.{kept}
use Rattle.offenders.proofs.points.first_moved.Given as goal

abbrev pub invariant-loop-i : goal.invariant-loop-i
invariant-loop-i l = (k : ℕ) → k < l.i → kept (point_at l.given) (point_at l.points) l.m k ≡ true
