-- `lines::table`. Invariant: i rows are written, a line each.
use Rattle.std.specs.Prelude.{◌≡◌, ◌+◌, ◌*◌, ◌≤◌}
use Rattle.laws.specs.Kit.{length, map}
use Rattle.definition.specs.Lists.{rows}
use Rattle.definition.specs.Text.{lines_of}
use Rattle.writing.specs.Put.{Written}
use Rattle.writing.proofs.lines.table.Given as goal

abbrev pub invariant-loop-i : goal.invariant-loop-i
invariant-loop-i g l = (l.i ≤ l.n) × (l.p ≤ l.at + g.T.Shown.most * (l.w * l.i)) × (length l.out ≡ length l.initial.out) × Written l.initial.out l.out l.at (lines_of g.T.Shown.text (rows l.w l.i (map g.T.Shown.number_of l.xs))) l.p
