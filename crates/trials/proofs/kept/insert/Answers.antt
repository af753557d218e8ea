-- Put in the place that was found.
use Rattle.trials.proofs.Steps.{inserted}
use Rattle.trials.proofs.kept.insert.Goals as goal

pub returns : goal.returns
returns c = inserted _ _ _ _ _ _ _ _ c.place-p.ensures c.put.ensures
