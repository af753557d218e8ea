use Rattle.std.specs.Prelude.{◌≡◌, ◌<◌, ◌≤◌}
use Rattle.laws.specs.Kit.{false, ℕ}
use Rattle.definition.specs.Call.{joint_at, bad_joint}
use Rattle.refusals.proofs.bad_joints.Given as goal

abbrev pub invariant-loop-i : goal.invariant-loop-i
invariant-loop-i l = (l.i ≤ l.n) × ((k : ℕ) → k < l.i → bad_joint l.given (joint_at l.joints k) ≡ false)
