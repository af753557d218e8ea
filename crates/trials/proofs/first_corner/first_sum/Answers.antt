use lib.Ieee.{neg, mul, add, of_bits}
use Rattle.definition.specs.Floats.{◌⊕◌, ◌⊗◌, 0·0, 0·25, 1·0, f64}
use Rattle.definition.specs.Metrics.{corner, c0, c1, c2, c3, d0, weights, weighted}
use Rattle.trials.specs.Floors.{begun}
use Rattle.trials.proofs.first_corner.first_sum.Goals as goal

pub returns : goal.returns
unfolding corner c0 c1 c2 c3 d0 weights weighted begun ◌⊕◌ ◌⊗◌ 0·0 0·25 1·0 f64 mul neg of_bits add
returns c = rw c.first_begun.ensures
