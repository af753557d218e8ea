use Rattle.std.specs.Prelude.{◌-◌}
use Rattle.root.proofs.Steps.{After}
use Rattle.root.proofs.exact.by_digits.Given as goal

abbrev pub invariant-loop-i : goal.invariant-loop-i
invariant-loop-i l = After l.r l.w l.rest l.root l._i
