use Rattle.std.specs.Prelude.{◌≡◌, ◌≤◌}
use Rattle.laws.specs.Kit.{drop}
use Rattle.definition.specs.Text.{run, decimal}
use Rattle.reading.specs.Found.{limited}
use Rattle.reading.proofs.Digits.{decimal_on}
use Rattle.reading.proofs.values.digits.Given as goal

abbrev pub invariant-loop-i : goal.invariant-loop-i
invariant-loop-i l = (l.v ≤ l.most) × (limited l.most (decimal (run l.s)) ≡ limited l.most (decimal_on l.v (run (drop l.i l.s))))
