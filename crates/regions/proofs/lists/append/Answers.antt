use Rattle.laws.specs.Kit.{arith, length-set}
use Rattle.regions.proofs.lists.append.Goals as goal

pub returns : goal.returns
returns c = rw (c.marks_at.ensures, c.list_at.ensures)

pub bounds-w-list_at : goal.bounds-w-list_at
bounds-w-list_at c = simp length-set (omega arith)
