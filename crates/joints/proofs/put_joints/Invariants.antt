use Rattle.std.specs.Prelude.{◌≡◌, ◌≤◌}
use Rattle.laws.specs.Kit.{length}
use Rattle.joints.proofs.Puts.{Begun}
use Rattle.joints.proofs.put_joints.Given as goal

abbrev pub invariant-loop-i : goal.invariant-loop-i
invariant-loop-i l = (l.i ≤ l.n) × (length l.j ≡ length l.initial.j) × Begun l.j l.joints l.n l.i
