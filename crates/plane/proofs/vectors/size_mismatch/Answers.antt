use Rattle.definition.specs.Floats.{◌⊗◌, ◌≺◌, 0·5, 1·5, f64}
use Rattle.definition.specs.Numbers.{mismatch_low, mismatch_high}
use Rattle.definition.specs.Plane.{size_mismatch}
use Rattle.plane.proofs.vectors.size_mismatch.Goals as goal

pub returns-then-span-target : goal.returns-then-span-target
unfolding size_mismatch mismatch_low mismatch_high ◌⊗◌ ◌≺◌ 0·5 1·5 f64
returns-then-span-target c = rw c.if-span-target.true

pub returns : goal.returns
unfolding size_mismatch mismatch_low mismatch_high ◌⊗◌ ◌≺◌ 0·5 1·5 f64
returns c = rw c.if-span-target.false
