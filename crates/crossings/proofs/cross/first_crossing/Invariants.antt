use Rattle.std.specs.Prelude.{◌-◌, ◌≤◌}
use Rattle.laws.specs.Kit.{◌∙◌, arith, rules}
use Rattle.definition.specs.Cells.{Mesh}
use Rattle.laws.specs.Frames.{Keeps, keeps_refl, keeps_trans}
use Rattle.cells.specs.Layout.{mesh_end}
use Rattle.crossings.specs.Cross.{Known, NoneBelow}
use Rattle.crossings.proofs.Crosses.{none_more, first_at, first_none}
use Rattle.crossings.proofs.cross.first_crossing.Given as goal

abbrev pub invariant-loop-a : goal.invariant-loop-a
invariant-loop-a l =
    (l.a ≤ l.n) × Keeps l.initial.w l.w (mesh_end l.lay.slots l.lay.points) × ((m : Mesh) → Known l.initial.w l.q l.lay.slots l.lay.points l.n l.bucket m → Known l.w l.q l.lay.slots l.lay.points l.n l.bucket m × (NoneBelow m l.u l.v l.from → NoneBelow m l.u l.v l.a))
