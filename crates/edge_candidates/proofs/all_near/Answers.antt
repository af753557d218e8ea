-- The loop's invariant: the ideals before place 8 i are not near.
use Rattle.std.specs.Prelude.{◌≡◌, ◌/◌, ◌*◌, ◌+◌}
use Rattle.laws.specs.Kit.{sym, subst, ◌∙◌, ℕ, arith}
use Rattle.plane.specs.Vectors.{vec}
use Rattle.edge_candidates.specs.Wishes.{kept_test, Tested}
use Rattle.edge_candidates.proofs.Fours.{tested_by, tested_on, can_get_four, four_hit, four_miss}
use Rattle.edge_candidates.proofs.all_near.Goals as goal

pub loop-i-init : goal.loop-i-init
loop-i-init c = (omega arith, λ j a h. absurd (omega (arith, h)))

pub four_near-requires : goal.four_near-requires
four_near-requires c =
    let a = c.args in
    can_get_four a.w.now a.b a.k (8 * c.loop-i.i) c.requires (omega (arith, c.loop-i-test.true))

pub returns-then-four_near : goal.returns-then-four_near
returns-then-four_near c =
    let a = c.args in
    tested_by (kept_test a.w.now a.b (vec a.e)) 0 a.k
    (four_hit a.w.now a.b (8 * c.loop-i.i) (vec a.e) a.k (omega (arith, c.loop-i-test.true)) (sym c.four_near.ensures ∙ c.if-four_near.true))

pub four_near-requires-in-loop-i : goal.four_near-requires-in-loop-i
four_near-requires-in-loop-i c =
    let a = c.args in
    can_get_four a.w.now a.b a.k ((8 * c.loop-i.i) + 4) c.requires (omega (arith, c.loop-i-test.true))

pub returns-then-four_near-2 : goal.returns-then-four_near-2
returns-then-four_near-2 c =
    let a = c.args in
    tested_by (kept_test a.w.now a.b (vec a.e)) 0 a.k
    (four_hit a.w.now a.b ((8 * c.loop-i.i) + 4) (vec a.e) a.k (omega (arith, c.loop-i-test.true)) (sym c.four_near-in-loop-i.ensures ∙ c.if-four_near-2.true))

pub loop-i-preserved : goal.loop-i-preserved
loop-i-preserved c =
    let a = c.args in (
      omega (arith, c.loop-i-test.true),
      λ j z h.
          four_miss a.w.now a.b ((8 * c.loop-i.i) + 4) (vec a.e) (sym c.four_near-in-loop-i.ensures ∙ c.if-four_near-2.false)
          (four_miss a.w.now a.b (8 * c.loop-i.i) (vec a.e) (sym c.four_near.ensures ∙ c.if-four_near.false) c.loop-i.invariant.1) j z (omega (arith, h)),
    )

pub returns : goal.returns
returns c =
    let a = c.args in
    let f = kept_test a.w.now a.b (vec a.e) in
    let e : 8 * (a.k / 8) ≡ 8 * c.loop-i.i = omega arith in
    tested_on f (8 * c.loop-i.i) a.k c.few_near.result c.loop-i.invariant.1 (subst (λ (n : ℕ). Tested f n a.k c.few_near.result) e c.few_near.ensures)
