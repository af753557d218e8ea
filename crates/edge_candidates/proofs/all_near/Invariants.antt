use Rattle.std.specs.Prelude.{◌≡◌, ◌*◌, ◌<◌, ◌≤◌}
use Rattle.laws.specs.Kit.{false, ℕ}
use Rattle.plane.specs.Vectors.{vec}
use Rattle.edge_candidates.specs.Wishes.{kept_test}
use Rattle.edge_candidates.proofs.all_near.Given as goal

abbrev pub invariant-loop-i : goal.invariant-loop-i
invariant-loop-i l = (8 * l.i ≤ l.k) × ((j : ℕ) → 0 ≤ j → j < 8 * l.i → kept_test l.w l.b (vec l.e) j ≡ false)
