use Rattle.std.specs.Prelude.{◌≡◌, ◌<◌, ◌≤◌}
use Rattle.laws.specs.Kit.{false, ℕ}
use Rattle.definition.specs.Call.{quad_at}
use Rattle.definition.specs.Cells.{has_edge_in, quad_edges}
use Rattle.retrace.proofs.turns.quad_has.Given as goal

abbrev pub invariant-loop-i : goal.invariant-loop-i
invariant-loop-i l = (l.i ≤ l.k) × ((x : ℕ) → x < l.i → has_edge_in (quad_edges (quad_at l.quads x)) (l.u, l.v) ≡ false)
