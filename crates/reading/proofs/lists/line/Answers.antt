-- `lists::line`: three values one after the other, each with its byte.
use Rattle.reading.proofs.Chains.{refused}
use Rattle.reading.proofs.Threes.{three_off, three_one, three_two, three_all}
use Rattle.reading.proofs.lists.line.Goals as goal

pub returns-in_err-a : goal.returns-in_err-a
returns-in_err-a g c =
    let r = g.T.Listed.reader in
    refused _ _ c.from_residual.ensures (three_off r _ (c.in_err-a.ensures g.T.Listed.number_of r _ c.read.ensures))

pub returns-in_err-b : goal.returns-in_err-b
returns-in_err-b g c =
    let r = g.T.Listed.reader in
    let n = g.T.Listed.number_of in
    let f = c.in_ok-a in
    refused _ _ c.from_residual-in_err-b.ensures (three_one r _ (n f.a) f.p.now (f.ensures n r _ c.read.ensures) (c.in_err-b.ensures n r _ c.read-2.ensures))

pub returns-in_err-c : goal.returns-in_err-c
returns-in_err-c g c =
    let r = g.T.Listed.reader in
    let n = g.T.Listed.number_of in
    let f = c.in_ok-a in
    let h = c.in_ok-b in
    refused _ _ c.from_residual-in_err-c.ensures
    (three_two r _ (n f.a) f.p.now (f.ensures n r _ c.read.ensures) (n h.b) h.q.now (h.ensures n r _ c.read-2.ensures) (c.in_err-c.ensures n r _ c.read-3.ensures))

pub returns : goal.returns
returns g c =
    let r = g.T.Listed.reader in
    let n = g.T.Listed.number_of in
    let f = c.in_ok-a in
    let h = c.in_ok-b in
    let k = c.in_ok-c in
    three_all r _ (n f.a) f.p.now (f.ensures n r _ c.read.ensures) (n h.b) h.q.now (h.ensures n r _ c.read-2.ensures) (n k.c) k.rest.now (k.ensures n r _ c.read-3.ensures)
