use Rattle.std.specs.Prelude.{◌≡◌, ◌<◌}
use Rattle.laws.specs.Kit.{ℕ, get_or}
use Rattle.groups.specs.Forest.{root, Kept}
use Rattle.groups.proofs.forest.flatten.Given as goal

abbrev pub invariant-loop-i : goal.invariant-loop-i
invariant-loop-i l = Kept l.initial.parents l.parents l.n × ((j : ℕ) → j < l.i → get_or l.parents j 0 ≡ root l.initial.parents j)
