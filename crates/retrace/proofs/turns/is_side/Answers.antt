use Rattle.retrace.proofs.Flipping.{side_first, side_second, side_other}
use Rattle.retrace.proofs.turns.is_side.Goals as goal

pub returns-then-a-u : goal.returns-then-a-u
returns-then-a-u c = let t = c in let a = t.args in side_first a.a a.b a.u a.v t.requires c.if-a-u.true

pub returns-then-a-v : goal.returns-then-a-v
returns-then-a-v c = let t = c in let a = t.args in side_second a.a a.b a.u a.v t.requires c.if-a-u.false c.if-a-v.true

pub returns : goal.returns
returns c = let t = c in let a = t.args in side_other a.a a.b a.u a.v t.requires c.if-a-u.false c.if-a-v.false
