use Rattle.std.specs.Prelude.{◌≡◌, ◌<◌, ◌≤◌}
use Rattle.laws.specs.Kit.{false, ℕ}
use Rattle.plane.specs.Vectors.{vec}
use Rattle.edge_candidates.specs.Wishes.{kept_test}
use Rattle.edge_candidates.proofs.few_near.Given as goal

abbrev pub invariant-loop-j : goal.invariant-loop-j
invariant-loop-j l = (l.i ≤ l.j) × ((n : ℕ) → l.i ≤ n → n < l.j → kept_test l.w l.b (vec l.e) n ≡ false)
