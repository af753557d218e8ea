use mathlib.Core.Path.{◌≡◌}
use mathlib.Core.List.{List}
use Prim.Native.Nat.{ℕ, ◌+◌, ◌-◌, ◌≤◌}
use lib.ListN.{get_or}
use Rattle.definition.specs.Lists.{filter}
use Rattle.definition.specs.Cells.{Live, Mesh}
use Rattle.plane.specs.Vectors.{vec}
use Rattle.rules.specs.Settings.{quality_of}
use Rattle.side_candidates.specs.Hand.{fenced}
use Rattle.side_candidates.specs.Blocks.{Boxes}
use Rattle.edge_candidates.specs.Wanted.{turn}
use Rattle.candidates.specs.Choice.{is_choice, CanPick}
use Rattle.candidates.proofs.Lists.{Listing}
use Rattle.candidates.proofs.pick_among.Given as goal

-- the nodes below `from` are gone over, r of them listed, and the words from `from` on are as they were
abbrev pub invariant-loop-v : goal.invariant-loop-v
invariant-loop-v l = record {
  few : l.r ≤ l.from;
  most : l.from ≤ l.g.high + 1;
  least : l.g.low ≤ l.from;
  same : (u : ℕ) → l.from ≤ u → get_or l.w (l.b + u) 0 ≡ get_or l.initial.w (l.b + u) 0;
  listing : (m : Mesh) (region : List Live) → CanPick l.initial.w l.q l.lay.slots l.lay.points l.k l.b l.o.aim.end l.o.aim.other l.o.at l.o.wish l.g m region → Boxes l.h.boxes.now l.h.size l.k m (filter (fenced m) region)
      → Listing l.initial.w l.w l.lay.points l.b l.from l.r (is_choice (quality_of l.o.aim.quality) (turn l.o.aim.left) m l.o.aim.end l.o.aim.other (vec l.o.aim.normal) l.o.aim.target region);
}

-- how many are left
abbrev pub decreases-loop-v : goal.decreases-loop-v
decreases-loop-v l = l.g.high + 1 - l.from
