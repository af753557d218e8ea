use Rattle.std.proofs.Common.{◌<◌}
use Rattle.trials.proofs.ranked.steepest.Given as goal

-- of the node that is found only its place counts
abbrev pub invariant-loop-i : goal.invariant-loop-i
invariant-loop-i l = l.r < l.near.count
