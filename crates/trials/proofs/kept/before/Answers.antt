-- Each return goes by the two comparisons of the scores.
use Rattle.definition.specs.Floats.{◌≺◌}
use Rattle.definition.specs.Trials.{trial_before}
use Rattle.trials.specs.Kept.{trial_of}
use Rattle.trials.proofs.kept.before.Goals as goal

pub returns-then-l-r : goal.returns-then-l-r
unfolding trial_before trial_of ◌≺◌
returns-then-l-r c = rw c.if-l-r.true

pub returns-then-l-r-2 : goal.returns-then-l-r-2
unfolding trial_before trial_of ◌≺◌
returns-then-l-r-2 c = rw (c.if-l-r.false, c.if-l-r-2.true)

pub returns : goal.returns
unfolding trial_before trial_of ◌≺◌
returns c = rw (c.if-l-r.false, c.if-l-r-2.false) c.nodes_before.ensures
