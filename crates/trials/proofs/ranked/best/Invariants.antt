use Rattle.definition.specs.Lists.{flat_map}
use Rattle.rules.specs.Settings.{quality_of}
use Rattle.trials.specs.Floors.{bar}
use Rattle.trials.specs.Ranked.{part, trial_at}
use Rattle.trials.proofs.Reaching.{GoneAbove}
use Rattle.trials.proofs.ranked.best.Given as goal

-- of the trials of the nodes from i on with every node at b those that reach the floor are inserted, the last one first
abbrev pub invariant-loop-i : goal.invariant-loop-i
invariant-loop-i l = GoneAbove (bar l.floor) (λ c. flat_map (trial_at (quality_of l.y) l.q l.a l.b c) (part l.w l.fn.far_at l.fn.fars)) (part l.w l.fn.near_at l.fn.nears) l.y.pairs l.nears l.scores l.nodes l.k l.i
