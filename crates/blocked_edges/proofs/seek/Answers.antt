-- The record of u-v is its place among the edges that are left to search (Walks.Rest).
use Rattle.laws.specs.Kit.{sym, ◌∙◌, ap, ℕ}
use Rattle.blocked_edges.specs.Records.{head}
use Rattle.blocked_edges.proofs.Walks.{rest_start, rest_hit, rest_more, rest_falls, rest_end}
use Rattle.blocked_edges.proofs.seek.Goals as goal

pub loop-i-init : goal.loop-i-init
loop-i-init c = λ ever h.
    let a = c.args in
    rest_start a.w.now a.b a.n a.p a.u a.v c.wide-i.result ever h c.requires.edge (c.wide-i.ensures ∙ ap (λ (x : ℕ). head a.w.now a.b a.n x) c.list_of-g.ensures.0)

pub returns-then-wide-v : goal.returns-then-wide-v
returns-then-wide-v c = λ ever h.
    let l = c.loop-i in
    let a = c.args in
    (rest_hit a.w.now a.b a.n a.p a.u a.v l.i ever (l.invariant ever h) c.requires.edge c.loop-i-test.true (sym c.wide.ensures ∙ c.if-wide-v.true), c.loop-i-test.true)

pub loop-i-smaller : goal.loop-i-smaller
loop-i-smaller c =
    let l = c.loop-i in
    let a = c.args in
    let e = c.wide-i-in-loop-i.ensures in
    rw e (rest_falls a.w.now a.b a.n a.p a.u a.v l.i c.requires.lists.0 (l.invariant c.requires.lists.0 c.requires.lists.1) c.requires.edge c.loop-i-test.true)

pub loop-i-preserved : goal.loop-i-preserved
loop-i-preserved c = λ ever h.
    let l = c.loop-i in
    let a = c.args in
    let e = c.wide-i-in-loop-i.ensures in
    rw e (rest_more a.w.now a.b a.n a.p a.u a.v l.i ever (l.invariant ever h) c.requires.edge c.loop-i-test.true (λ z. c.if-wide-v.false (c.wide.ensures ∙ z)))

pub returns : goal.returns
returns c = λ ever h.
    let l = c.loop-i in
    let a = c.args in
    sym (rest_end a.w.now a.b a.n a.p a.u a.v l.i ever (l.invariant ever h) c.loop-i-test.false)
