-- After k flips the memory stands for a mesh from which the rest of the flips gives what the whole recovery gives.
use mathlib.Core.Path.{◌≡◌}
use mathlib.Core.List.{List}
use Prim.Native.Nat.{ℕ, ◌≤◌}
use lib.ListN.{length}
use Rattle.definition.specs.Cells.{Mesh}
use Rattle.laws.specs.Frames.{Keeps}
use Rattle.cells.specs.Layout.{mesh_end}
use Rattle.joints.specs.Table.{Locks}
use Rattle.crossings.specs.Cross.{Known}
use Rattle.traces.specs.Log.{Logged}
use Rattle.flips.proofs.Recovers.{Going}
use Rattle.flips.proofs.recover.recover.Given as goal

abbrev pub invariant-loop-k : goal.invariant-loop-k
invariant-loop-k l =
    (l.k ≤ l.used) × Keeps l.initial.w l.w (mesh_end l.lay.slots l.lay.points) × (length l.t ≡ length l.initial.t)
    × ((base : List ℕ) (m : Mesh) → Known l.initial.w l.q l.lay.slots l.lay.points l.n l.bucket m → m.used ≡ l.used → Locks l.j m.locked → Logged base l.initial.t l.fn.at m
    → Going l.w l.q base l.t l.lay.slots l.lay.points l.n l.used l.bucket l.u l.v l.k l.at l.from m)
    × (l.from ≤ l.n)
