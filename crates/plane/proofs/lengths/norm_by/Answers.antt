use Rattle.laws.specs.Kit.{◌∙◌, ap, rules, Float}
use Rattle.definition.specs.Floats.{◌⊗◌, f64, 0·5}
use Rattle.definition.specs.Plane.{norm}
use Rattle.plane.specs.Vectors.{vec}
use Rattle.rounding.proofs.Halves.{half_length}
use Rattle.plane.proofs.lengths.norm_by.Goals as goal

pub returns-then-half_of-2 : goal.returns-then-half_of-2
unfolding norm vec ◌⊗◌ 0·5 f64
returns-then-half_of-2 c =
    λ e.
    ap (λ (z : Float). 0·5 ⊗ z) e ∙ half_length _ _ _ _ (c.half_of.ensures c.if-half_of.true) (c.half_of-then-half_of.ensures c.if-half_of-2.true)
