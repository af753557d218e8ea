use Rattle.laws.specs.Kit.{sym, ◌∙◌, ap, rules}
use Rattle.definition.specs.Floats.{◌⊖◌, ◌⊗◌, lesser, 1·0, f64}
use Rattle.std.specs.Prelude.{Option}
use Rattle.definition.specs.Metrics.{score}
use Rattle.plane.specs.declared.metrics.Metrics.{Metrics}
use Rattle.plane.specs.Measures.{metrics_of_enum}
use Rattle.plane.proofs.Laws.{zero_over_zero}
use Rattle.plane.proofs.metrics.score.Goals as goal

pub returns-in-None : goal.returns-in-None
unfolding metrics_of_enum score
returns-in-None c = zero_over_zero ∙ sym (ap (λ (m : Option Metrics). score (metrics_of_enum m)) c.in-None.is)

pub returns-in-Some : goal.returns-in-Some
unfolding metrics_of_enum score ◌⊖◌ ◌⊗◌ 1·0 f64
returns-in-Some c =
    c.lesser.ensures ∙ ap (lesser _) c.sqrt.ensures.is ∙ sym (ap (λ (m : Option Metrics). score (metrics_of_enum m)) c.in-Some.is)
