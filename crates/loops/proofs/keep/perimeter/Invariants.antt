use Rattle.std.specs.Prelude.{◌≤◌}
use Rattle.laws.specs.Kit.{List, length}
use Rattle.definition.specs.Plane.{Edge}
use Rattle.definition.specs.Cells.{Mesh}
use Rattle.cells.specs.Rep.{Pts}
use Rattle.edges.specs.Places.{OnPlaces}
use Rattle.loops.proofs.Keeping.{Summing}
use Rattle.loops.proofs.keep.perimeter.Given as goal

abbrev pub invariant-loop-i : goal.invariant-loop-i
invariant-loop-i s = (s.b ≤ s.i) × ((m : Mesh) (l : List Edge) → Pts s.q s.lay.points m → OnPlaces s.w s.lay.slots s.lay.points s.b s.e (length m.points) l → Summing s.w s.lay.slots s.lay.points s.e s.i s.sum m.points l)
