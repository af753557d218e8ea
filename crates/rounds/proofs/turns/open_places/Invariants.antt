use mathlib.Core.Path.{◌≡◌}
use mathlib.Core.List.{List}
use Prim.Native.Nat.{◌≤◌}
use lib.ListN.{length}
use Rattle.definition.specs.Plane.{Edge}
use Rattle.definition.specs.Cells.{Mesh}
use Rattle.rounds.specs.Turns.{Shows, MarksOnly}
use Rattle.edges.specs.Places.{OnPlaces}
use Rattle.rounds.proofs.Places.{Opened}
use Rattle.rounds.proofs.turns.open_places.Given as goal

abbrev pub invariant-loop-i : goal.invariant-loop-i
invariant-loop-i s =
    (length s.w ≡ length s.initial.w) × (s.b ≤ s.i) × MarksOnly s.initial.w s.w s.lay.slots s.lay.points × ((m : Mesh) (bl l : List Edge) → Shows s.initial.w s.lay.slots s.lay.points m bl → OnPlaces s.initial.w s.lay.slots s.lay.points s.b s.e (length m.points) l → Opened s.initial.w s.w s.lay.slots s.lay.points s.b s.i m bl)
