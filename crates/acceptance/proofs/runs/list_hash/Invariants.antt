use Rattle.std.specs.Prelude.{◌≡◌}
use Rattle.acceptance.specs.Runs.{hashed}
use Rattle.acceptance.proofs.runs.list_hash.Given as goal

abbrev pub invariant-loop-s : goal.invariant-loop-s
invariant-loop-s l = l.h ≡ hashed l.given l.list.count l.list.nodes l.s
