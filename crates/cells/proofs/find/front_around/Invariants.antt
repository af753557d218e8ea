use Prim.Native.Nat.{◌-◌, ◌≤◌}
use Rattle.cells.specs.Rep.{Rep}
use Rattle.definition.specs.Cells.{Mesh}
use Rattle.cells.proofs.Fronts.{Counted}
use Rattle.cells.proofs.find.front_around.Given as goal

abbrev pub invariant-loop-c : goal.invariant-loop-c
invariant-loop-c l = (l.all ≤ 2) × (l.tri ≤ 1) × ((m : Mesh) → Rep l.w l.lay.slots l.lay.points m → Counted l.w l.lay.slots l.lay.points l.u l.v l.all l.tri l.c m)

abbrev pub decreases-loop-c : goal.decreases-loop-c
decreases-loop-c l = 3 - l.all
