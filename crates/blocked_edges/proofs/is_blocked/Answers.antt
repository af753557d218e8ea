-- Each answer is what `stands` says of the edge's record: the tests are its three parts.
use Rattle.laws.specs.Kit.{sym, ◌∙◌, arith}
use Rattle.blocked_edges.proofs.Standing.{stands_none, stands_true, stands_first, stands_second}
use Rattle.blocked_edges.proofs.is_blocked.Goals as goal

pub returns-in_default : goal.returns-in_default
returns-in_default c = λ k ever bl h.
    let a = c.args in
    sym (h.blocked (a.u, a.v) c.requires.edge
    ∙ stands_none a.w.now a.b a.n a.p ever (a.u, a.v) a.n (sym (c.in_default.ensures ever h.lists)) (omega arith))

pub returns-then-born-w : goal.returns-then-born-w
returns-then-born-w c = λ k ever bl h.
    let a = c.args in
    let i = c.in-Some in
    sym (h.blocked (a.u, a.v) c.requires.edge
    ∙ stands_first a.w.now a.b a.n a.p ever (a.u, a.v) i.i (i.ensures ever h.lists).0 (λ l. c.if-born-w.true))

pub returns-then-born-w-2 : goal.returns-then-born-w-2
returns-then-born-w-2 c = λ k ever bl h.
    let a = c.args in
    let i = c.in-Some in
    sym (h.blocked (a.u, a.v) c.requires.edge
    ∙ stands_second a.w.now a.b a.n a.p ever (a.u, a.v) i.i (i.ensures ever h.lists).0 (λ l. c.if-born-w-2.true))

pub returns : goal.returns
returns c = λ k ever bl h.
    let a = c.args in
    let i = c.in-Some in
    let e = i.ensures ever h.lists in
    sym (h.blocked (a.u, a.v) c.requires.edge
    ∙ stands_true a.w.now a.b a.n a.p ever (a.u, a.v) i.i e.0 e.1 c.if-born-w.false c.if-born-w-2.false)
