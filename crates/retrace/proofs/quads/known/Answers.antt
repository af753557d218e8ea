use Rattle.retrace.proofs.Placing.{known_0, known_1, known_2, known_3}
use Rattle.retrace.proofs.quads.known.Goals as goal

pub returns-then-a-n : goal.returns-then-a-n
returns-then-a-n c = let a = c.args in known_0 a.n a.a a.b a.c a.d c.if-a-n.true

pub returns-then-b-n : goal.returns-then-b-n
returns-then-b-n c = let a = c.args in known_1 a.n a.a a.b a.c a.d c.if-a-n.false c.if-b-n.true

pub returns-then-c-n : goal.returns-then-c-n
returns-then-c-n c = let a = c.args in known_2 a.n a.a a.b a.c a.d c.if-a-n.false c.if-b-n.false c.if-c-n.true

pub returns : goal.returns
returns c = let a = c.args in known_3 a.n a.a a.b a.c a.d c.if-a-n.false c.if-b-n.false c.if-c-n.false
