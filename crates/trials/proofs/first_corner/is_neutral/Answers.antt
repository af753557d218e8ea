-- The four sums, one after the other.
use mathlib.Core.Path.{sym, ◌∙◌}
use mathlib.Core.Bool.{false≢true}
use Prim.{absurd}
use Rattle.definition.specs.Plane.{flat}
use Rattle.plane.specs.Points.{node}
use Rattle.trials.proofs.first_corner.is_neutral.Goals as goal

pub returns : goal.returns
unfolding node flat
returns c =
    λ e.
    record {
      first_x = sym c.first_begun.ensures ∙ c.is_same.ensures c.if-not-is_same.false ∙ c.first_begun-2.ensures;
      first_y = sym c.first_begun-3.ensures ∙ c.is_same-2.ensures c.if-not-is_same-2.false ∙ c.first_begun-4.ensures;
      second_x = sym c.second_begun.ensures ∙ c.is_same-3.ensures c.if-not-is_same-3.false ∙ c.second_begun-2.ensures;
      second_y = sym c.second_begun-3.ensures ∙ c.is_same-4.ensures e ∙ c.second_begun-4.ensures;
    }

pub returns-then-not-is_same : goal.returns-then-not-is_same
returns-then-not-is_same c e = absurd (false≢true e)

pub returns-then-not-is_same-2 : goal.returns-then-not-is_same-2
returns-then-not-is_same-2 c e = absurd (false≢true e)

pub returns-then-not-is_same-3 : goal.returns-then-not-is_same-3
returns-then-not-is_same-3 c e = absurd (false≢true e)
