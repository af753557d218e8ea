use Rattle.std.specs.Prelude.{◌≡◌, ◌<◌}
use Rattle.laws.specs.Kit.{ℕ, length, get_or}
use Rattle.groups.proofs.forest.start.Given as goal

abbrev pub invariant-loop-i : goal.invariant-loop-i
invariant-loop-i l = (length l.parents ≡ length l.initial.parents) × ((j : ℕ) → j < l.i → get_or l.parents j 0 ≡ j)
