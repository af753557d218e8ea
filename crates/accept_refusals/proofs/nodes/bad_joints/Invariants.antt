use mathlib.Core.Path.{◌≡◌}
use mathlib.Core.Bool.{false}
use Prim.Native.Nat.{ℕ, ◌<◌}
use Rattle.definition.specs.Call.{joint_at, bad_joint}
use Rattle.accept_refusals.proofs.nodes.bad_joints.Given as goal

abbrev pub invariant-loop-i : goal.invariant-loop-i
invariant-loop-i l = (k : ℕ) → k < l.i → bad_joint l.given (joint_at l.joints k) ≡ false
