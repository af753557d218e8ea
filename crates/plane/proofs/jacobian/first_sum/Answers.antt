use Rattle.definition.specs.Floats.{◌⊕◌, ◌⊗◌, 0·0, 0·25, 1·0, f64}
use Rattle.definition.specs.Metrics.{corner, c0, c1, c2, c3, d0, weights, weighted}
use Rattle.laws.specs.Kit.{rules}
use Rattle.plane.proofs.jacobian.first_sum.Goals as goal

pub returns : goal.returns
unfolding corner c0 c1 c2 c3 d0 weights weighted ◌⊕◌ ◌⊗◌ 0·0 0·25 1·0 f64
returns c =
    λ z. rw (c.weight.ensures, c.weight-2.ensures, c.weight-3.ensures, c.weight-4.ensures)
