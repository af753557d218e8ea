use Rattle.laws.specs.Kit.{sym, ◌∙◌}
use Rattle.retrace.specs.Stored.{stored}
use Rattle.retrace.proofs.Placing.{placed_odd, can_push, placed_four}
use Rattle.retrace.proofs.quads.place.Goals as goal

pub returns-then-twice : goal.returns-then-twice
returns-then-twice c =
    let a = c.args in
    placed_odd a.work.now a.lay.slots a.lay.points a.i a.a a.b a.c a.d (λ e r g. sym c.if-twice.true ∙ c.twice.ensures e r g)

pub push_quad-requires : goal.push_quad-requires
push_quad-requires c =
    let a = c.args in (
      stored c.requires.0,
      c.requires.1,
      can_push a.work.now a.lay.slots a.lay.points a.i a.a a.b a.c a.d (λ e r g. sym c.if-twice.false ∙ c.twice.ensures e r g) c.requires.0 c.requires.2,
    )

pub returns : goal.returns
returns c =
    let a = c.args in
    placed_four a.work.now a.lay.slots a.lay.points a.i a.a a.b a.c a.d (λ e r g. sym c.if-twice.false ∙ c.twice.ensures e r g) c.push_quad.new.w c.push_quad.ensures
