use Rattle.std.specs.Prelude.{◌+◌, ◌*◌, ◌<◌}
use Rattle.laws.specs.Kit.{sym, ◌∙◌, ap, subst, arith}
use Rattle.plane.specs.Vectors.{vec}
use Rattle.edge_candidates.specs.Wanted.{turn, near}
use Rattle.edge_candidates.specs.Wishes.{Tested, kept_test}
use Rattle.edge_candidates.proofs.Nears.{wish_test, near_alone, near_kept, near_rest}
use Rattle.edge_candidates.proofs.near_ideal.Goals as goal

pub returns-then-o-eq0 : goal.returns-then-o-eq0
returns-then-o-eq0 c =
    let a = c.args in
    λ m p other k z.
    c.is_near.ensures ∙ ap (near (vec a.e)) c.turned.ensures
    ∙ sym (near_alone a.w.now a.q.now a.s p a.b a.o m a.a other k z (turn a.left) (vec a.e) c.if-o-eq0.true)

pub kept_near-requires : goal.kept_near-requires
kept_near-requires c =
    let z = c.requires.4 in
    record { fits = omega (arith, z.to, z.kept.few); numbers = z.kept.numbers }

pub returns-then-kept_near : goal.returns-then-kept_near
returns-then-kept_near c =
    let a = c.args in
    λ m p other k z.
    near_kept a.w.now a.q.now a.s p a.b a.o m a.a other k z (turn a.left) (vec a.e)
    (subst (Tested (kept_test a.w.now (a.b + 2 * a.s) (vec a.e)) 0 a.o.kept) c.if-kept_near.true c.kept_near.ensures)

pub rest_near-requires : goal.rest_near-requires
rest_near-requires c =
    let a = c.args in
    wish_test a.w.now a.q.now a.s c.requires.1 a.b a.o c.requires.0 a.a c.requires.2 c.requires.3 c.requires.4

pub returns : goal.returns
returns c =
    let a = c.args in
    let h : 0 < a.o.count = omega (arith, c.if-o-eq0.false) in
    λ m p other k z.
    near_rest a.w.now a.q.now a.s p a.b a.o m a.a other k z (turn a.left) (vec a.e) c.rest_near.result h
    (subst (Tested (kept_test a.w.now (a.b + 2 * a.s) (vec a.e)) 0 a.o.kept) c.if-kept_near.false c.kept_near.ensures) c.rest_near.ensures
