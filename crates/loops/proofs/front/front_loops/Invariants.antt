use Rattle.std.specs.Prelude.{◌≡◌}
use Rattle.laws.specs.Kit.{List, length}
use Rattle.definition.specs.Plane.{Edge}
use Rattle.definition.specs.Cells.{Mesh}
use Rattle.cells.specs.Layout.{front_used_at}
use Rattle.loops.specs.Link.{Clear}
use Rattle.loops.specs.Sift.{CanSift}
use Rattle.loops.proofs.Looping.{Looping}
use Rattle.loops.proofs.front.front_loops.Given as goal

abbrev pub invariant-loop-i : goal.invariant-loop-i
invariant-loop-i l =
    (l.used ≡ front_used_at l.lay.slots l.lay.points) × (length l.w ≡ length l.initial.w) × (length l.f ≡ length l.initial.f) × ((m : Mesh) (es bl : List Edge) → CanSift l.initial.w l.q l.initial.f l.lay.slots l.lay.points l.n l.k m es bl → Clear l.initial.w l.lay.slots l.lay.points l.n l.k es → Looping l.initial.w l.w l.initial.f l.f l.lay.slots l.lay.points l.n l.k l.x.edges l.x.loops l.i m.points es bl)
