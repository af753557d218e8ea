use Rattle.std.specs.Prelude.{◌≡◌, ◌-◌}
use Rattle.laws.specs.Kit.{ℕ, List, length}
use Rattle.definition.specs.Plane.{Edge}
use Rattle.loops.specs.Trace.{CanWalk}
use Rattle.loops.proofs.Walking.{Walking}
use Rattle.loops.proofs.walks.walk.Given as goal

abbrev pub invariant-loop-left : goal.invariant-loop-left
invariant-loop-left l =
    (length l.w ≡ length l.initial.w) × ((n a : ℕ) (es path : List Edge) → CanWalk l.initial.w l.lay.slots l.lay.points n l.k a l.b l.here es path → Walking l.initial.w l.w l.lay.slots l.lay.points n l.k a l.b l.count l.end l.left l.start l.here es path)

abbrev pub decreases-loop-left : goal.decreases-loop-left
decreases-loop-left l = l.k - l.count
