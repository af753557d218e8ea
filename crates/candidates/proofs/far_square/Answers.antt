use mathlib.Core.Path.{ap, sym, ◌∙◌, subst}
use lib.Ieee.{Float, binary64, fits}
use Rattle.definition.specs.Floats.{f64}
use Rattle.definition.specs.Root.{sqrt}
use Rattle.rules.specs.Settings.{quality_of}
use Rattle.candidates.specs.Choice.{too_far, FarFrom}
use Rattle.live_regions.proofs.Squares.{norm_root, square_fits}
use Rattle.candidates.proofs.Roots.{far_from, far_endless, endless}
use Rattle.candidates.proofs.far_square.Goals as goal

pub returns-then-too_far : goal.returns-then-too_far
returns-then-too_far c =
    let a = c.args in
    far_from (quality_of a.y) c.square-z.result a.target (ap (fits binary64) c.square-z.ensures ∙ square_fits _)
    (sym c.if-too_far.true ∙ c.too_far.ensures ∙ ap (λ (x : Float). too_far (quality_of a.y) x a.target) (c.norm.ensures ∙ norm_root _ ∙ ap sqrt (sym c.square-z.ensures)))

pub returns : goal.returns
unfolding f64
returns c =
    let a = c.args in
    subst (λ (x : Float). FarFrom (quality_of a.y) x a.target) (sym endless) (far_endless (quality_of a.y) a.target)
