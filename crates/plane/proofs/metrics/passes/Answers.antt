use Rattle.laws.specs.Kit.{sym, ◌∙◌, ap, rules}
use Rattle.std.specs.Prelude.{Option}
use Rattle.definition.specs.Metrics.{passes}
use Rattle.plane.specs.declared.metrics.Metrics.{Metrics}
use Rattle.plane.specs.Measures.{metrics_of_enum}
use Rattle.plane.proofs.Measured.{passes_by}
use Rattle.plane.proofs.metrics.passes.Goals as goal

pub returns-in-None : goal.returns-in-None
unfolding metrics_of_enum passes
returns-in-None c = λ y e f. sym (ap (λ (m : Option Metrics). passes y (metrics_of_enum m)) c.in-None.is)

pub returns-in-Some : goal.returns-in-Some
unfolding metrics_of_enum
returns-in-Some c =
    λ y e f.
    c.good.ensures ∙ passes_by y _ _ e f ∙ sym (ap (λ (m : Option Metrics). passes y (metrics_of_enum m)) c.in-Some.is)
