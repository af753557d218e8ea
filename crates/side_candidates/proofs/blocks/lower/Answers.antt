use Rattle.definition.specs.Floats.{0·0, f64}
use Rattle.side_candidates.proofs.Boxing.{low_old, low_new, low_none}
use Rattle.side_candidates.proofs.blocks.lower.Goals as goal

pub returns-then-b-x : goal.returns-then-b-x
returns-then-b-x c = low_old _ _ c.if-b-x.true

pub returns-then-x-b : goal.returns-then-x-b
returns-then-x-b c = low_new _ _ c.if-x-b.true

pub returns : goal.returns
unfolding 0·0 f64
returns c = low_none _ _
