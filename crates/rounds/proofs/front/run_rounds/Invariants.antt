use mathlib.Core.Path.{◌≡◌}
use mathlib.Core.List.{[]}
use Prim.Native.Nat.{ℕ, ◌+◌, ◌-◌, ◌<◌}
use lib.ListN.{length}
use Rattle.definition.specs.Front.{State, front_loop}
use Rattle.joints.specs.Table.{Locks}
use Rattle.rules.specs.Settings.{settings_of}
use Rattle.attempts.specs.Runs.{Begun, setup, Goes}
use Rattle.rounds.proofs.Running.{Running}
use Rattle.rounds.proofs.front.run_rounds.Given as goal

abbrev pub invariant-loop-rules : goal.invariant-loop-rules
invariant-loop-rules l =
    (length l.w ≡ length l.initial.w) × (length l.q ≡ length l.initial.q) × (length l.f ≡ length l.initial.f) × (length l.quads ≡ length l.initial.quads) × (length l.t ≡ length l.initial.t)
    × ((z : Begun) (st : State) (fuel : ℕ) → Goes l.initial.w l.initial.q l.initial.quads l.initial.t (setup l.rules z) l.initial.g st [] → Locks l.j z.locked → l.rules.attempts < fuel + st.counts.attempts
    → Running l.w l.q l.quads l.t (setup l.rules z) l.g (front_loop fuel (settings_of l.rules) l.rules.given st))

abbrev pub decreases-loop-rules : goal.decreases-loop-rules
decreases-loop-rules l = l.rules.attempts + 1 - l.g.counters.attempts
