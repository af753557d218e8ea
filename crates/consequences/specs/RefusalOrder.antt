-- The refusals of a call in their order: where the test of an earlier number holds, a later number does not come up.
use Rattle.std.specs.Prelude.{◌≡◌, ◌≢◌, ◌∷◌}
use Rattle.laws.specs.Kit.{◌∙◌, ap, Bool, true, cond, Option, some, ℕ, arith, List}
use Rattle.definition.specs.Lists.{find}
use Rattle.definition.specs.Call.{Asked, Lent, bad_quality, unknown_node, far_point, bad_grid, conditions}
use Rattle.laws.specs.Bools.{cond_ok, never}

-- the number is not that of the condition found
abbrev pub NotBy : ℕ → Option (ℕ × Bool) → Type 0
NotBy k o = (x : ℕ × Bool) → o ≡ some x → x.0 ≢ k
