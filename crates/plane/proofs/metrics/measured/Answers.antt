-- The sides' test, and what passes it.
use Rattle.laws.specs.Kit.{sym, ◌∙◌, true, false, rules}
use Rattle.plane.specs.Measures.{metrics_of_enum}
use Rattle.plane.proofs.Measured.{flat_by, metrics_by}
use Rattle.plane.proofs.metrics.measured.Goals as goal

pub returns-then-flat_side : goal.returns-then-flat_side
unfolding metrics_of_enum
returns-then-flat_side c =
    λ h e.
    let s = c.sides_of-s.ensures _ _ _ _ h in
    sym (metrics_by _ _ _ _ false true e (sym (flat_by _ _ _ _ _ s) ∙ sym c.flat_side.ensures ∙ c.if-flat_side.true))

pub returns : goal.returns
unfolding metrics_of_enum
returns c =
    λ h e.
    let s = c.sides_of-s.ensures _ _ _ _ h in
    rw (c.min_scaled_jacobian.ensures h, c.largest_cosine.ensures s)
    (sym (metrics_by _ _ _ _ false false e (sym (flat_by _ _ _ _ _ s) ∙ sym c.flat_side.ensures ∙ c.if-flat_side.false)))
