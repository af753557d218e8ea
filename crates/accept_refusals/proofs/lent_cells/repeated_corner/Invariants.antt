use mathlib.Core.Path.{◌≡◌}
use mathlib.Core.Bool.{false}
use Prim.Native.Nat.{ℕ, ◌<◌}
use Rattle.accept.specs.Call.{corners_at, quad_twice}
use Rattle.accept_refusals.proofs.lent_cells.repeated_corner.Given as goal

abbrev pub invariant-loop-i : goal.invariant-loop-i
invariant-loop-i l = (k : ℕ) → k < l.i → quad_twice (corners_at l.quads k) ≡ false
