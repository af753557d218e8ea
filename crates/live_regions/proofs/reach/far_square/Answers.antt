use mathlib.Core.Path.{ap, sym, ◌∙◌, subst}
use lib.Ieee.{Float}
use Rattle.definition.specs.Floats.{◌≺◌}
use Rattle.plane.proofs.Laws.{one_over_zero}
use Rattle.live_regions.specs.Squares.{BeyondReach}
use Rattle.live_regions.proofs.Squares.{far_of, far_none}
use Rattle.live_regions.proofs.reach.far_square.Goals as goal

pub returns-then-norm-r : goal.returns-then-norm-r
unfolding ◌≺◌
returns-then-norm-r c =
    let a = c.args in
    subst (BeyondReach a.r) (sym c.square.ensures) (far_of a.r _ (ap (λ (x : Float). a.r ≺ x) (sym c.norm.ensures) ∙ c.if-norm-r.true))

pub returns : goal.returns
returns c =
    let a = c.args in
    subst (BeyondReach a.r) (sym one_over_zero) (far_none a.r)
