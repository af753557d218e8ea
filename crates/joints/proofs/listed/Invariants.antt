use Rattle.std.specs.Prelude.{◌≡◌, ◌<◌, ◌≤◌}
use Rattle.laws.specs.Kit.{false, ℕ}
use Rattle.definition.specs.Cells.{same_edge}
use Rattle.joints.specs.Table.{edge_in}
use Rattle.joints.proofs.listed.Given as goal

abbrev pub invariant-loop-i : goal.invariant-loop-i
invariant-loop-i l = (l.i ≤ l.n) × ((k : ℕ) → k < l.i → same_edge (l.u, l.v) (edge_in l.j k) ≡ false)
