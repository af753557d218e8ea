use Rattle.std.specs.Prelude.{◌≡◌, ◌+◌, ◌*◌, ◌≤◌}
use Rattle.laws.specs.Kit.{length, map, take}
use Rattle.writing.proofs.Rows.{spaced}
use Rattle.writing.specs.Put.{Written}
use Rattle.writing.proofs.lines.line.Given as goal

abbrev pub invariant-loop-n : goal.invariant-loop-n
invariant-loop-n g l = (l.p ≤ l.at + g.T.Shown.most * l.n-index) × (length l.out ≡ length l.initial.out) × Written l.initial.out l.out l.at (spaced g.T.Shown.text (map g.T.Shown.number_of (take l.n-index l.row))) l.p
