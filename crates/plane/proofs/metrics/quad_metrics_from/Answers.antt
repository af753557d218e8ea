use Rattle.laws.specs.Kit.{refl, sym, ◌∙◌, true, rules}
use Rattle.plane.specs.Measures.{metrics_of_enum}
use Rattle.plane.proofs.Measured.{metrics_by}
use Rattle.plane.proofs.metrics.quad_metrics_from.Goals as goal

pub returns-then-folded : goal.returns-then-folded
unfolding metrics_of_enum
returns-then-folded c = λ _ _. sym (metrics_by _ _ _ _ true _ (sym c.folded.ensures ∙ c.if-folded.true) refl)

pub returns : goal.returns
returns c =
    λ e f.
    c.measured.ensures (c.lengths_from.ensures e f) (sym c.folded.ensures ∙ c.if-folded.false)
