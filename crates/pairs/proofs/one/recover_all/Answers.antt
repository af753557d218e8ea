-- The sides in their order, each over the memory and the trace that the one before left.
use Rattle.std.specs.Prelude.{◌^◌, ◌≤◌}
use Rattle.laws.specs.Kit.{refl, sym, rules, not-true, not-false}
use Rattle.definition.specs.Flips.{recover}
use Rattle.pairs.proofs.Locked.{locks_stay}
use Rattle.pairs.proofs.Sides.{side1, side2, side3, side_few, first_fails, second_fails, third_ends}
use Rattle.pairs.proofs.one.recover_all.Goals as goal

-- ---- the first side

pub recover-x-requires : goal.recover-x-requires
recover-x-requires c =
    let a = c.args in
    record { by_index = c.requires.by_index; segment = side1 a.c.points a.quad.a a.quad.b a.quad.d a.quad.e c.requires.corners }

pub returns-then-not-x : goal.returns-then-not-x
returns-then-not-x c =
    let a = c.args in
    first_fails a.q.now a.j.now a.rules.lay.slots a.rules.lay.points a.c.points a.c.used a.rules.bucket a.at a.quad.a a.quad.b a.quad.d a.quad.e a.w.now a.t.now c.recover-x.new.w c.recover-x.new.t
    c.recover-x.result c.recover-x.ensures (not-true c.recover-x.result.there c.if-not-x.true)

-- ---- the second

pub recover-y-requires : goal.recover-y-requires
recover-y-requires c =
    let a = c.args in
    let h = c.requires.by_index in
    let m = h.1 in
    let m1 = (recover m a.quad.a a.quad.e).mesh in
    let l1 = locks_stay a.j.now m a.quad.a a.quad.e h.4 in
    let g1 = c.recover-x.ensures.is h.0 m h.2 h.3 h.4 h.5 in
    record { by_index = (h.0, m1, g1.known, g1.same, l1, g1.log); segment = side2 a.c.points a.quad.a a.quad.b a.quad.d a.quad.e c.requires.corners }

pub overflow_add-result : goal.overflow_add-result
overflow_add-result c =
    let a = c.args in
    let h = c.requires.by_index in
    let m = h.1 in
    let m1 = (recover m a.quad.a a.quad.e).mesh in
    let l1 = locks_stay a.j.now m a.quad.a a.quad.e h.4 in
    let g1 = c.recover-x.ensures.is h.0 m h.2 h.3 h.4 h.5 in
    let g2 = c.recover-y.ensures.is h.0 m1 g1.known g1.same l1 g1.log in
    let f1 : c.recover-x.result.flips ≤ 2 ^ 32 = side_few h.2 h.3 g1 in
    let f2 : c.recover-y.result.flips ≤ 2 ^ 32 = side_few g1.known g1.same g2 in
    search rules

pub returns-then-not-y : goal.returns-then-not-y
returns-then-not-y c =
    let a = c.args in
    let gone = not-true c.recover-y.result.there c.if-not-y.true in
    second_fails a.q.now a.j.now a.rules.lay.slots a.rules.lay.points a.c.points a.c.used a.rules.bucket a.at a.quad.a a.quad.b a.quad.d a.quad.e a.w.now a.t.now c.recover-x.new.w c.recover-x.new.t
    c.recover-x.result c.recover-x.ensures (not-false c.recover-x.result.there c.if-not-x.false) c.recover-y.new.w c.recover-y.new.t c.recover-y.result c.recover-y.ensures
    gone _ (record { there = sym gone; short = refl; flips = refl; at = refl })

-- ---- the third

pub recover-z-requires : goal.recover-z-requires
recover-z-requires c =
    let a = c.args in
    let h = c.requires.by_index in
    let m = h.1 in
    let m1 = (recover m a.quad.a a.quad.e).mesh in
    let l1 = locks_stay a.j.now m a.quad.a a.quad.e h.4 in
    let g1 = c.recover-x.ensures.is h.0 m h.2 h.3 h.4 h.5 in
    let m2 = (recover m1 a.quad.b a.quad.d).mesh in
    let l2 = locks_stay a.j.now m1 a.quad.b a.quad.d l1 in
    let g2 = c.recover-y.ensures.is h.0 m1 g1.known g1.same l1 g1.log in
    record { by_index = (h.0, m2, g2.known, g2.same, l2, g2.log); segment = side3 a.c.points a.quad.a a.quad.b a.quad.d a.quad.e c.requires.corners }

pub overflow_add-result-2 : goal.overflow_add-result-2
overflow_add-result-2 c =
    let a = c.args in
    let h = c.requires.by_index in
    let m = h.1 in
    let m1 = (recover m a.quad.a a.quad.e).mesh in
    let l1 = locks_stay a.j.now m a.quad.a a.quad.e h.4 in
    let g1 = c.recover-x.ensures.is h.0 m h.2 h.3 h.4 h.5 in
    let g2 = c.recover-y.ensures.is h.0 m1 g1.known g1.same l1 g1.log in
    let f1 : c.recover-x.result.flips ≤ 2 ^ 32 = side_few h.2 h.3 g1 in
    let f2 : c.recover-y.result.flips ≤ 2 ^ 32 = side_few g1.known g1.same g2 in
    search rules

pub overflow_add-result-3 : goal.overflow_add-result-3
overflow_add-result-3 c =
    let a = c.args in
    let h = c.requires.by_index in
    let m = h.1 in
    let m1 = (recover m a.quad.a a.quad.e).mesh in
    let l1 = locks_stay a.j.now m a.quad.a a.quad.e h.4 in
    let g1 = c.recover-x.ensures.is h.0 m h.2 h.3 h.4 h.5 in
    let m2 = (recover m1 a.quad.b a.quad.d).mesh in
    let l2 = locks_stay a.j.now m1 a.quad.b a.quad.d l1 in
    let g2 = c.recover-y.ensures.is h.0 m1 g1.known g1.same l1 g1.log in
    let g3 = c.recover-z.ensures.is h.0 m2 g2.known g2.same l2 g2.log in
    let f1 : c.recover-x.result.flips ≤ 2 ^ 32 = side_few h.2 h.3 g1 in
    let f2 : c.recover-y.result.flips ≤ 2 ^ 32 = side_few g1.known g1.same g2 in
    let f3 : c.recover-z.result.flips ≤ 2 ^ 32 = side_few g2.known g2.same g3 in
    search rules

pub returns : goal.returns
returns c =
    let a = c.args in
    third_ends a.q.now a.j.now a.rules.lay.slots a.rules.lay.points a.c.points a.c.used a.rules.bucket a.at a.quad.a a.quad.b a.quad.d a.quad.e a.w.now a.t.now c.recover-x.new.w c.recover-x.new.t
    c.recover-x.result c.recover-x.ensures (not-false c.recover-x.result.there c.if-not-x.false) c.recover-y.new.w c.recover-y.new.t c.recover-y.result c.recover-y.ensures
    (not-false c.recover-y.result.there c.if-not-y.false) c.recover-z.new.w c.recover-z.new.t c.recover-z.result c.recover-z.ensures _
    (record { there = refl; short = refl; flips = refl; at = refl })
