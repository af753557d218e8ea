use Rattle.std.specs.Prelude.{◌≡◌, ◌≤◌, take}
use Rattle.accept.specs.Accept.{odd_ones}
use Rattle.verdicts.proofs.leaves.count_odd.Given as goal

abbrev pub invariant-loop-x : goal.invariant-loop-x
invariant-loop-x l = (l.n ≡ odd_ones (take l.x-index l.sizes)) × (l.n ≤ l.x-index)
