use Rattle.laws.specs.Kit.{arith, length-set}
use Rattle.loops.specs.Link.{linked}
use Rattle.loops.proofs.links.link.Goals as goal

pub returns : goal.returns
unfolding linked
returns c = rw (c.heads_at.ensures, c.front_links_at.ensures)

pub bounds-w-at-2 : goal.bounds-w-at-2
bounds-w-at-2 c = simp length-set (omega arith)
