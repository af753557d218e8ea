-- No cell of a slot below i holds the point.
use Rattle.laws.specs.Kit.{sym, ◌∙◌, arith}
use Rattle.definition.specs.Plane.{flat}
use Rattle.insertion.proofs.Holders.{unheld_more, order_found, order_lost}
use Rattle.insertion.proofs.holder.first_in_order.Goals as goal

pub loop-i-init : goal.loop-i-init
loop-i-init c = (omega arith, λ m l x h b. absurd (omega (arith, b)))

pub holds-requires : goal.holds-requires
holds-requires c =
    let l = c.requires.1 in
    record { drawn = (c.requires.0, record { rep = l.rep; pts = l.pts }); i_lt_s = omega (arith, c.loop-i-test.true, l.given, l.rep.used) }

pub returns-then-holds : goal.returns-then-holds
returns-then-holds c =
    let a = c.args in
    λ m k.
    order_found a.w.now a.lay.slots a.lay.points m k.rep (flat a.x a.y) c.loop-i.i (c.loop-i.invariant.1 m k)
    (sym c.if-holds.true ∙ c.holds.ensures m (record { rep = k.rep; pts = k.pts })) (omega (arith, c.loop-i-test.true, k.given, k.rep.used))

pub loop-i-preserved : goal.loop-i-preserved
loop-i-preserved c =
    let a = c.args in (
      omega (arith, c.loop-i-test.true),
      λ m k.
          unheld_more a.w.now a.lay.slots a.lay.points m k.rep (flat a.x a.y) c.loop-i.i (c.loop-i.invariant.1 m k)
          (sym c.if-holds.false ∙ c.holds.ensures m (record { rep = k.rep; pts = k.pts })),
    )

pub returns : goal.returns
returns c =
    let a = c.args in
    λ m k. order_lost a.w.now a.lay.slots a.lay.points m k.rep (flat a.x a.y) c.loop-i.i (c.loop-i.invariant.1 m k) (omega (arith, c.loop-i-test.false, k.given))
