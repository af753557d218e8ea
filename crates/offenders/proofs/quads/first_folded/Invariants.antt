use Rattle.std.specs.Prelude.{ℕ, ◌<◌}
use Rattle.definition.specs.Exact.{TurnsLeft}
use Rattle.definition.specs.Account.{All}
use Rattle.accept.specs.Call.{corners_at}
use Rattle.offenders.specs.Cells.{corners_in}
use Rattle.offenders.proofs.quads.first_folded.Given as goal

abbrev pub invariant-loop-i : goal.invariant-loop-i
invariant-loop-i l = (k : ℕ) → k < l.i → All TurnsLeft (corners_in l.points (corners_at l.quads k))
