use mathlib.Core.Path.{◌≡◌}
use mathlib.Core.Bool.{true}
use Prim.Native.Nat.{ℕ, ◌<◌}
use Rattle.definition.specs.Call.{tri_at}
use Rattle.accept.specs.Accept.{above}
use Rattle.uprights.specs.Promise.{turn_at, upright_at}
use Rattle.uprights.proofs.first_flat.Given as goal

abbrev pub invariant-loop-i : goal.invariant-loop-i
invariant-loop-i l = (k : ℕ) → k < l.i → above (turn_at l.points (upright_at l.points (tri_at l.triangles k))) ≡ true
