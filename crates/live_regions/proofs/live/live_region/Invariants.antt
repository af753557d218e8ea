-- The loop's invariant: the visits still to come give what all give; as many cells were seen as the loop has turned,
-- which are different slots.
use Rattle.std.proofs.Common.{◌≤◌, length}
use Rattle.definition.specs.Plane.{flat}
use Rattle.definition.specs.Cells.{Mesh}
use Rattle.definition.specs.Candidates.{live_region}
use Rattle.cells.specs.Layout.{all_end}
use Rattle.live_regions.specs.Stack.{Lent}
use Rattle.live_regions.proofs.Steps.{Living}
use Rattle.live_regions.proofs.live.live_region.Given as goal

abbrev pub invariant-loop : goal.invariant-loop
invariant-loop l = record {
  lent : (m : Mesh) × Lent l.initial.w l.q l.lay.slots l.lay.points l.used m;
  fits : all_end l.lay.slots l.lay.points ≤ length l.initial.w;
  living : (m : Mesh) → Lent l.initial.w l.q l.lay.slots l.lay.points l.used m → Living l.initial.w l.w l.lay.slots l.lay.points l.n l.counter m (flat l.o.at.x l.o.at.y) l.o.r (live_region m l.seed (flat l.o.at.x l.o.at.y) l.o.r);
}
