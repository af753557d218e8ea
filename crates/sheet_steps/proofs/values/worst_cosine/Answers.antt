use Rattle.definition.specs.Floats.{◌≺◌}
use Rattle.definition.specs.Sheet.{values}
use Rattle.plane.specs.Measures.{metrics_of_enum}
use Rattle.laws.specs.Kit.{rules}
use Rattle.sheet_steps.proofs.values.worst_cosine.Goals as goal

pub returns-in-None : goal.returns-in-None
unfolding metrics_of_enum values
returns-in-None c = rw c.in-None.is

pub returns-in-Some : goal.returns-in-Some
unfolding metrics_of_enum values ◌≺◌
returns-in-Some c = rw c.in-Some.is (c.worse.ensures (λ x y. y ≺ x) (λ a b t p. search rules))
