-- `root::exact::whole_root` meets its contract: a guess that leaves over what it may is the whole root.
-- Assumes nothing.
use Rattle.laws.specs.Kit.{rules}
use Rattle.root.proofs.exact.whole_root.Goals as goal

pub returns-then-e-t : goal.returns-then-e-t
returns-then-e-t c = c.left_over-e.ensures c.if-e-t.true

pub returns-then-d-t : goal.returns-then-d-t
returns-then-d-t c = c.left_over-d.ensures c.if-d-t.true
