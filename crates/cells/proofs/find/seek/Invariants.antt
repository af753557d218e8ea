use mathlib.Core.List.{List}
use Rattle.definition.specs.Cells.{Live}
use Rattle.cells.specs.Walk.{Pos, left}
use Rattle.cells.proofs.Walks.{Left}
use Rattle.cells.proofs.find.seek.Given as goal

abbrev pub invariant-loop-c : goal.invariant-loop-c
invariant-loop-c l = (rest : List Live) → Pos l.w l.lay.slots l.lay.points l.u l.from rest → Left l.w l.lay.slots l.lay.points l.u l.v l.c rest

abbrev pub decreases-loop-c : goal.decreases-loop-c
decreases-loop-c l = left l.w l.lay.slots l.lay.points l.c
