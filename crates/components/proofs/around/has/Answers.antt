use Rattle.components.proofs.Members.{read_first, read_second, read_third}
use Rattle.components.proofs.around.has.Goals as goal

pub returns-then-w-s : goal.returns-then-w-s
returns-then-w-s c = λ t h.
    let a = c.args in
    read_first a.w.now a.s a.i a.v t h c.if-w-s.true

pub returns-then-w-s-2 : goal.returns-then-w-s-2
returns-then-w-s-2 c = λ t h.
    let a = c.args in
    read_second a.w.now a.s a.i a.v t h c.if-w-s-2.true

pub returns : goal.returns
returns c = λ t h.
    let a = c.args in
    read_third a.w.now a.s a.i a.v t h c.if-w-s.false c.if-w-s-2.false
