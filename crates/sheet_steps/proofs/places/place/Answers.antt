use Rattle.std.specs.Prelude.{Option}
use Rattle.laws.specs.Kit.{sym, ◌∙◌, ap, arith, rules}
use Rattle.definition.specs.Sheet.{place}
use Rattle.plane.specs.declared.metrics.Metrics.{Metrics}
use Rattle.plane.specs.Measures.{metrics_of_enum}
use Rattle.sheet_steps.proofs.places.place.Goals as goal

pub returns-in-None : goal.returns-in-None
unfolding metrics_of_enum place
returns-in-None c = (sym (ap (λ (m : Option Metrics). place (metrics_of_enum m)) c.in-None.is), omega arith)

pub returns-in-Some : goal.returns-in-Some
unfolding metrics_of_enum
returns-in-Some c =
    (c.step.ensures.0 _ ∙ sym (ap (λ (m : Option Metrics). place (metrics_of_enum m)) c.in-Some.is), omega arith)
