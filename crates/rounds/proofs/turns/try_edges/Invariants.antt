-- The edges that wait, one after the other: what is still to come gives what all of them would have given.
use Rattle.std.specs.Prelude.{◌≡◌, ◌+◌, ◌-◌}
use Rattle.laws.specs.Kit.{List, length}
use Rattle.definition.specs.Plane.{Edge}
use Rattle.definition.specs.Front.{State}
use Rattle.cells.specs.Layout.{tried_at}
use Rattle.joints.specs.Table.{Locks}
use Rattle.attempts.specs.Runs.{Begun, setup}
use Rattle.rounds.specs.Turns.{CanTry}
use Rattle.rounds.proofs.Places.{zeros}
use Rattle.rounds.proofs.Trying.{waits, Trying}
use Rattle.rounds.proofs.turns.try_edges.Given as goal

abbrev pub invariant-loop-i : goal.invariant-loop-i
invariant-loop-i l =
    (length l.w ≡ length l.initial.w) × (length l.q ≡ length l.initial.q) × (length l.quads ≡ length l.initial.quads) × (length l.t ≡ length l.initial.t)
    × ((k : Begun) (st : State) (es : List Edge) → CanTry l.initial.w l.initial.q l.initial.quads l.initial.t (setup l.rules k) l.b l.e l.initial.g st es → Locks l.j k.locked
    → Trying l.initial.w l.w l.q l.quads l.t (setup l.rules k) l.b l.e l.g st (waits l.initial.w (setup l.rules k) l.b st es) es)

abbrev pub decreases-loop-i : goal.decreases-loop-i
decreases-loop-i l = zeros l.w (tried_at l.rules.lay.slots l.rules.lay.points + l.b) (l.e - l.b)
