use Rattle.std.specs.Prelude.{◌≡◌, ◌<◌, ◌≤◌}
use Rattle.laws.specs.Kit.{false, ℕ}
use Rattle.plane.specs.Vectors.{vec}
use Rattle.edge_candidates.specs.Wishes.{node_test}
use Rattle.edge_candidates.proofs.rest_near.Given as goal

abbrev pub invariant-loop-i : goal.invariant-loop-i
invariant-loop-i l = (l.k ≤ l.i) × ((j : ℕ) → l.k ≤ j → j < l.i → node_test l.w l.q l.a (vec l.u) l.b (vec l.e) j ≡ false)
