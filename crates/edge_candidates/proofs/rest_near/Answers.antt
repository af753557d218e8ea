-- The loop's invariant: the nodes from place k to place i give no ideal that is near.
use Rattle.std.specs.Prelude.{◌≡◌}
use Rattle.laws.specs.Kit.{sym, ◌∙◌, ap, subst, arith}
use Rattle.plane.specs.Points.{Within}
use Rattle.plane.specs.Vectors.{vec}
use Rattle.edge_candidates.specs.Wanted.{near}
use Rattle.edge_candidates.specs.Wishes.{ideal_from, node_test}
use Rattle.edge_candidates.proofs.Nears.{tested_hit, tested_miss, fails_more}
use Rattle.edge_candidates.proofs.rest_near.Goals as goal

pub loop-i-init : goal.loop-i-init
loop-i-init c = (omega arith, λ j a h. absurd (omega (arith, h, a)))

pub ideal_toward-requires : goal.ideal_toward-requires
ideal_toward-requires c =
    let a = c.args in
    (c.requires.node, subst (Within a.q.now) (sym c.wide.ensures) (c.requires.nodes c.loop-i.i c.loop-i-test.true))

pub returns-then-is_near : goal.returns-then-is_near
returns-then-is_near c =
    let x = c.loop-i in
    let a = c.args in
    let f = node_test a.w.now a.q.now a.a (vec a.u) a.b (vec a.e) in
    let e : f x.i ≡ c.is_near.result = ap (near (vec a.e)) (sym (c.ideal_toward.ensures ∙ ap (ideal_from a.q.now a.a (vec a.u)) c.wide.ensures)) ∙ sym c.is_near.ensures in
    tested_hit f a.k a.r x.i x.invariant.0 c.loop-i-test.true (e ∙ c.if-is_near.true)

pub loop-i-preserved : goal.loop-i-preserved
loop-i-preserved c =
    let x = c.loop-i in
    let a = c.args in
    let f = node_test a.w.now a.q.now a.a (vec a.u) a.b (vec a.e) in
    let e : f x.i ≡ c.is_near.result = ap (near (vec a.e)) (sym (c.ideal_toward.ensures ∙ ap (ideal_from a.q.now a.a (vec a.u)) c.wide.ensures)) ∙ sym c.is_near.ensures in
    (omega (arith, x.invariant.0), fails_more f a.k x.i x.invariant.1 (e ∙ c.if-is_near.false))

pub returns : goal.returns
returns c =
    let a = c.args in
    tested_miss (node_test a.w.now a.q.now a.a (vec a.u) a.b (vec a.e)) a.k a.r (λ j g h. c.loop-i.invariant.1 j g (omega (arith, h, c.loop-i-test.false)))
