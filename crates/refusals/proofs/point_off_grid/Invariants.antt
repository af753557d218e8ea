use Rattle.std.specs.Prelude.{◌≡◌, ◌<◌, ◌≤◌}
use Rattle.laws.specs.Kit.{false, not, ℕ}
use Rattle.definition.specs.Call.{point_at, grid_node}
use Rattle.refusals.proofs.point_off_grid.Given as goal

abbrev pub invariant-loop-i : goal.invariant-loop-i
invariant-loop-i l = (l.i ≤ l.given) × ((k : ℕ) → k < l.i → not (grid_node (point_at l.points k)) ≡ false)
