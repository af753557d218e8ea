use Rattle.std.specs.Prelude.{◌≤◌}
use Rattle.laws.specs.Kit.{ℕ, List}
use Rattle.definition.specs.Plane.{Edge}
use Rattle.loops.specs.Keep.{OpenLoop}
use Rattle.loops.proofs.Keeping.{Asking}
use Rattle.loops.proofs.keep.any_open.Given as goal

abbrev pub invariant-loop-i : goal.invariant-loop-i
invariant-loop-i s = (s.b ≤ s.i) × ((n : ℕ) (bl l : List Edge) → OpenLoop s.w s.lay.slots s.lay.points s.b s.e n bl l → Asking s.w s.lay.slots s.lay.points s.e s.i bl l)
