use mathlib.Core.Path.{sym, ◌∙◌}
use mathlib.Core.Bool.{false≢true}
use Rattle.definition.specs.Floats.{◌≼◌}
use Rattle.side_candidates.proofs.blocks.leftward.Goals as goal
use Rattle.side_candidates.proofs.blocks.leftward.Goals.{then-l-d, else-l-d, then-r-d, else-r-d}

pub returns-then-l-u : goal.returns-then-l-u
unfolding ◌≼◌
returns-then-l-u c =
    λ e.
    elim c.if-r-d.branch [
      | then-r-d w ↦
          elim c.if-l-d.branch [
            | then-l-d v ↦ record { ld = v.if-l-d.true; rd = sym v.value-is ∙ w.if-r-d.true; lu = sym w.value-is ∙ c.if-l-u.true; ru = e }
            | else-l-d v ↦ absurd (false≢true (sym v.if-l-d.false ∙ sym v.value-is ∙ w.if-r-d.true))
          ]
      | else-r-d w ↦ absurd (false≢true (sym w.if-r-d.false ∙ sym w.value-is ∙ c.if-l-u.true))
    ]
