-- The front edges of the nodes below u stand in the first k places.
use Rattle.std.specs.Prelude.{◌≡◌, ◌-◌, ◌≤◌}
use Rattle.laws.specs.Kit.{length}
use Rattle.definition.specs.Cells.{Mesh}
use Rattle.cells.specs.Rep.{Rep}
use Rattle.front_edges.proofs.Fronts.{Sofar}
use Rattle.front_edges.proofs.front_edges.Given as goal

abbrev pub invariant-loop-u : goal.invariant-loop-u
invariant-loop-u l =
    (l.u ≤ l.n) × ((m : Mesh) → Rep l.initial.w l.lay.slots l.lay.points m → l.n ≡ length m.points → Sofar l.initial.w l.w l.lay.slots l.lay.points l.u l.k m)
