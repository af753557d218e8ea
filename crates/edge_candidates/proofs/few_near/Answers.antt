-- The loop's invariant: the ideals from place i to place j are not near.
use Rattle.std.specs.Prelude.{◌≡◌}
use Rattle.laws.specs.Kit.{sym, ◌∙◌, ap, arith}
use Rattle.plane.specs.Vectors.{vec}
use Rattle.edge_candidates.specs.Wanted.{near}
use Rattle.edge_candidates.specs.Wishes.{kept_test}
use Rattle.edge_candidates.proofs.Nears.{tested_hit, tested_miss, fails_more}
use Rattle.edge_candidates.proofs.few_near.Goals as goal

pub loop-j-init : goal.loop-j-init
loop-j-init c = (omega arith, λ n g h. absurd (omega (arith, g, h)))

pub vec_at-requires : goal.vec_at-requires
vec_at-requires c =
    record { at_in_bounds = omega (arith, c.loop-j-test.true, c.requires.fits); numbers = c.requires.numbers c.loop-j.j c.loop-j-test.true }

pub returns-then-is_near : goal.returns-then-is_near
returns-then-is_near c =
    let x = c.loop-j in
    let a = c.args in
    let f = kept_test a.w.now a.b (vec a.e) in
    let e : f x.j ≡ c.is_near.result = ap (near (vec a.e)) (sym c.vec_at.ensures) ∙ sym c.is_near.ensures in
    tested_hit f a.i a.k x.j x.invariant.0 c.loop-j-test.true (e ∙ c.if-is_near.true)

pub loop-j-preserved : goal.loop-j-preserved
loop-j-preserved c =
    let x = c.loop-j in
    let a = c.args in
    let f = kept_test a.w.now a.b (vec a.e) in
    let e : f x.j ≡ c.is_near.result = ap (near (vec a.e)) (sym c.vec_at.ensures) ∙ sym c.is_near.ensures in
    (omega (arith, x.invariant.0), fails_more f a.i x.j x.invariant.1 (e ∙ c.if-is_near.false))

pub returns : goal.returns
returns c =
    let a = c.args in
    tested_miss (kept_test a.w.now a.b (vec a.e)) a.i a.k (λ n g h. c.loop-j.invariant.1 n g (omega (arith, h, c.loop-j-test.false)))
