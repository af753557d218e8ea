use native.Mathlib.Omega.{arith}
use native.Mathlib.Decide.{ℕ_discrete}
use Rattle.trials.proofs.Corners.{neutral_at}
use Rattle.trials.proofs.first_corner.all_neutral.Goals as goal

pub loop-j-preserved : goal.loop-j-preserved
loop-j-preserved c =
    let j = c.loop-j.j in
    let here = neutral_at _ _ _ _ _ _ c.at-u.ensures c.at-v.ensures c.at.ensures (c.is_neutral.ensures c.if-not-is_neutral.false) in
    λ i u. elim (ℕ_discrete i j) [
      | yes e ↦ rw e here
      | no f ↦ c.loop-j.invariant i (omega arith)
    ]
