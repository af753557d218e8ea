use mathlib.Core.Path.{◌≡◌}
use mathlib.Core.Bool.{true}
use Prim.Native.Nat.{ℕ, ◌<◌}
use Rattle.definition.specs.Call.{joint_at}
use Rattle.sorting.specs.Places.{key_at}
use Rattle.lost_joints.specs.Promise.{stands_in}
use Rattle.lost_joints.proofs.first_lost.Given as goal

abbrev pub invariant-loop-i : goal.invariant-loop-i
invariant-loop-i l = (j : ℕ) → j < l.i → stands_in (key_at l.given) l.g (key_at l.res) l.m (joint_at l.joints j) ≡ true
