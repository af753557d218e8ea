-- Before trial i the memory and the trace stand for a mesh from which the trials that are
-- left give what all of them give.
use Rattle.std.specs.Prelude.{◌≡◌, ◌*◌, ◌≤◌}
use Rattle.laws.specs.Kit.{ℕ, List, length}
use Rattle.definition.specs.Cells.{Mesh, this_round}
use Rattle.definition.specs.Trials.{Trial}
use Rattle.laws.specs.Frames.{Keeps}
use Rattle.joints.specs.Table.{Locks}
use Rattle.cells.specs.Layout.{refused_at}
use Rattle.traces.specs.Log.{Logged}
use Rattle.pairs.specs.Pair.{CanPair}
use Rattle.pairs.proofs.Orders.{Going}
use Rattle.pairs.proofs.try_in_order.Given as goal

abbrev pub invariant-loop-i : goal.invariant-loop-i
invariant-loop-i l =
    Keeps l.initial.w l.w (refused_at l.rules.lay.slots l.rules.lay.points)
    × (length l.t ≡ length l.initial.t)
    × (l.flips ≤ l.i * 49152)
    × ((base : List ℕ) (a b : ℕ) (m : Mesh) (ts : List Trial) → CanPair l.initial.w l.q l.rules l.c l.begun.u l.begun.v a b l.nodes l.count m ts → Locks l.j m.locked → Logged base l.initial.t l.initial.at m → l.round ≡ this_round m
    → Going l.w l.q base l.t l.rules l.c l.at l.round l.inserted l.begun.u l.begun.v l.last l.i l.flips m ts)
