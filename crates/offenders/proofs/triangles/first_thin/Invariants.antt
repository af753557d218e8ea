use Rattle.std.specs.Prelude.{ℕ, ◌<◌}
use Rattle.definition.specs.Exact.{CosineUpTo}
use Rattle.definition.specs.Account.{All}
use Rattle.definition.specs.Call.{tri_at}
use Rattle.offenders.specs.Triangles.{corners_in}
use Rattle.offenders.proofs.triangles.first_thin.Given as goal

abbrev pub invariant-loop-i : goal.invariant-loop-i
invariant-loop-i l = (k : ℕ) → k < l.i → All (CosineUpTo l.t) (corners_in l.points (tri_at l.triangles k))
