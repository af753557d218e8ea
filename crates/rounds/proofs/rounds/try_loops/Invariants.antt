use mathlib.Core.Path.{◌≡◌}
use mathlib.Core.List.{List}
use Prim.Native.Nat.{ℕ}
use lib.ListN.{length}
use Rattle.definition.specs.Plane.{Edge}
use Rattle.definition.specs.Front.{State}
use Rattle.joints.specs.Table.{Locks}
use Rattle.attempts.specs.Runs.{Begun, setup}
use Rattle.rounds.specs.Rounds.{CanLoops}
use Rattle.rounds.proofs.Looping.{Looping}
use Rattle.rounds.proofs.rounds.try_loops.Given as goal

abbrev pub invariant-loop-i : goal.invariant-loop-i
invariant-loop-i l =
    (length l.w ≡ length l.initial.w) × (length l.q ≡ length l.initial.q) × (length l.quads ≡ length l.initial.quads) × (length l.t ≡ length l.initial.t)
    × ((z : Begun) (st : State) (n : ℕ) (ls os : List (List Edge)) → CanLoops l.initial.w l.initial.q l.initial.quads l.initial.t (setup l.rules z) l.k l.r l.initial.g st n ls os → Locks l.j z.locked
    → Looping l.w l.q l.quads l.t (setup l.rules z) l.k l.r l.g st n ls os l.i)
