use Rattle.std.specs.Prelude.{◌≡◌, ◌-◌, ◌<◌}
use Rattle.laws.specs.Kit.{ℕ, List}
use Rattle.definition.specs.Plane.{Edge}
use Rattle.cells.specs.Layout.{front_used_at}
use Rattle.loops.specs.Trace.{Ready}
use Rattle.loops.proofs.Unused.{Seeking}
use Rattle.loops.proofs.walks.first_left.Given as goal

abbrev pub invariant-loop-c : goal.invariant-loop-c
invariant-loop-c l = (l.used ≡ front_used_at l.lay.slots l.lay.points) × ((n : ℕ) (es : List Edge) → Ready l.w l.lay.slots l.lay.points n l.k es → l.v < n → Seeking l.w l.lay.slots l.lay.points l.k l.v l.c es)

abbrev pub decreases-loop-c : goal.decreases-loop-c
decreases-loop-c l = l.k - l.c
