use Rattle.laws.specs.Kit.{ap, not}
use Rattle.definition.specs.Call.{bad_quality}
use Rattle.refusals.proofs.bad_quality.Goals as goal

pub returns : goal.returns
unfolding bad_quality
returns c = ap not c.good_quality.ensures
