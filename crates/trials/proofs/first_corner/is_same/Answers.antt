-- Every parameter is a double, and a double is told by its bits.
use mathlib.Core.Path.{sym, ◌∙◌}
use borrow.Author.Tests.{eqb-true}
use Rattle.trials.proofs.Corners.{same_float}
use Rattle.trials.proofs.first_corner.is_same.Goals as goal

pub returns : goal.returns
returns c =
    λ e.
    same_float _ _ c.well_formed.0.1 c.well_formed.1.0.1 (sym c.bits_of.ensures ∙ eqb-true _ _ e ∙ c.bits_of-2.ensures)
