use mathlib.Core.Logic.{inl, inr}
use Rattle.definition.specs.Floats.{◌⊖◌, ◌⊗◌}
use Rattle.side_candidates.proofs.blocks.Frame.is_beside.Goals as goal

pub returns-then-leftward : goal.returns-then-leftward
unfolding ◌⊖◌ ◌⊗◌
returns-then-leftward c = λ e. inl (c.leftward.ensures c.if-leftward.true)

pub returns-else-leftward : goal.returns-else-leftward
unfolding ◌⊖◌ ◌⊗◌
returns-else-leftward c = λ e. inr (c.leftward-else-leftward.ensures e)
