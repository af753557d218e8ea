-- A pair with a node twice gives no trial; another is rated.
use Rattle.trials.specs.Ranked.{trial_at}
use Rattle.trials.proofs.Rating.{kept_same}
use Rattle.trials.proofs.ranked.with_pair.Goals as goal

pub returns-then-meets : goal.returns-then-meets
unfolding trial_at
returns-then-meets c = kept_same _ _ _ _ _ c.requires.count_le_pairs.0 (rw (← c.meets.ensures, c.if-meets.true))

pub returns : goal.returns
unfolding trial_at
returns c = rw (← c.meets.ensures, c.if-meets.false) c.rate.ensures
