use Rattle.laws.specs.Kit.{ℕ, List}
use Rattle.definition.specs.Cells.{Mesh, Live}
use Rattle.components.specs.Near.{Around}
use Rattle.components.proofs.Looks.{Looking}
use Rattle.components.proofs.near.beside.Given as goal

abbrev pub invariant-loop-i : goal.invariant-loop-i
invariant-loop-i l = (k : ℕ) (m : Mesh) (region xs : List Live) → Around l.w l.lay.slots l.lay.points k l.n m region xs → Looking l.i m region xs
