use Rattle.definition.specs.Floats.{0·0, f64}
use Rattle.side_candidates.proofs.Boxing.{high_old, high_new, high_none}
use Rattle.side_candidates.proofs.blocks.upper.Goals as goal

pub returns-then-x-b : goal.returns-then-x-b
returns-then-x-b c = high_old _ _ c.if-x-b.true

pub returns-then-b-x : goal.returns-then-b-x
returns-then-b-x c = high_new _ _ c.if-b-x.true

pub returns : goal.returns
unfolding 0·0 f64
returns c = high_none _ _
