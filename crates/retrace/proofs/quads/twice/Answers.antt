use Rattle.retrace.proofs.Placing.{twice_01, twice_02, twice_03, twice_12, twice_13, twice_23}
use Rattle.retrace.proofs.quads.twice.Goals as goal

pub returns-then-a-b : goal.returns-then-a-b
returns-then-a-b c = λ e r g. let a = c.args in twice_01 e r g a.a a.b a.c a.d c.if-a-b.true

pub returns-then-a-c : goal.returns-then-a-c
returns-then-a-c c = λ e r g. let a = c.args in twice_02 e r g a.a a.b a.c a.d c.if-a-b.false c.if-a-c.true

pub returns-then-a-d : goal.returns-then-a-d
returns-then-a-d c = λ e r g. let a = c.args in twice_03 e r g a.a a.b a.c a.d c.if-a-b.false c.if-a-c.false c.if-a-d.true

pub returns-then-b-c : goal.returns-then-b-c
returns-then-b-c c = λ e r g.
    let a = c.args in
    twice_12 e r g a.a a.b a.c a.d c.if-a-b.false c.if-a-c.false c.if-a-d.false c.if-b-c.true

pub returns-then-b-d : goal.returns-then-b-d
returns-then-b-d c = λ e r g.
    let a = c.args in
    twice_13 e r g a.a a.b a.c a.d c.if-a-b.false c.if-a-c.false c.if-a-d.false c.if-b-c.false c.if-b-d.true

pub returns : goal.returns
returns c = λ e r g.
    let a = c.args in
    twice_23 e r g a.a a.b a.c a.d c.if-a-b.false c.if-a-c.false c.if-a-d.false c.if-b-c.false c.if-b-d.false
