use mathlib.Core.Path.{ap, sym, ◌∙◌, subst}
use lib.Ieee.{Float}
use Rattle.definition.specs.Floats.{◌≺◌}
use Rattle.plane.proofs.Laws.{minus_one_over_zero}
use Rattle.live_regions.specs.Squares.{WithinReach}
use Rattle.live_regions.proofs.Squares.{near_of, near_none}
use Rattle.live_regions.proofs.reach.near_square.Goals as goal

pub returns-then-norm-r : goal.returns-then-norm-r
returns-then-norm-r c =
    let a = c.args in
    subst (WithinReach a.r) (sym minus_one_over_zero) (near_none a.r)

pub returns : goal.returns
unfolding ◌≺◌
returns c =
    let a = c.args in
    subst (WithinReach a.r) (sym c.square.ensures) (near_of a.r _ (ap (λ (x : Float). a.r ≺ x) (sym c.norm.ensures) ∙ c.if-norm-r.false))
