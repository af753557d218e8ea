use Rattle.crossings.proofs.Tris.{off_same, off_rest}
use Rattle.crossings.proofs.cross.off_edge.Goals as goal

pub returns-then-n-u : goal.returns-then-n-u
returns-then-n-u c = let a = c.args in off_same a.u a.v a.n c.if-n-u.true

pub returns : goal.returns
returns c = let a = c.args in off_rest a.u a.v a.n c.if-n-u.false
