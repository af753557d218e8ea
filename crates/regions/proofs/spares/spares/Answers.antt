-- Every edge of the triangles passed may go; the rest of the list says what the whole says.
use Rattle.laws.specs.Kit.{refl, sym, ◌∙◌, arith, drop}
use Rattle.definition.specs.Cells.{new_quad}
use Rattle.definition.specs.Region.{spares_locked}
use Rattle.regions.proofs.Listings.{few}
use Rattle.regions.proofs.Fills.{item, item_can, items_end, all_next, all_stop, all_end}
use Rattle.regions.proofs.Locked.{spared, spared_is}
use Rattle.regions.proofs.spares.spares.Goals as goal

pub loop-i-init : goal.loop-i-init
loop-i-init c =
    (omega arith, omega (arith, few c.requires.2, c.requires.2.rep.used, c.requires.2.rep.room.small), λ m xs h k. refl)

pub listed-requires : goal.listed-requires
listed-requires c =
    let a = c.args in
    item_can a.w.now a.lay.slots a.lay.points a.n c.loop-i.i c.requires.0 c.requires.1 c.requires.2 c.loop-i-test.true

pub spares_tri-requires : goal.spares_tri-requires
spares_tri-requires c =
    let a = c.args in
    let it = item a.w.now a.lay.slots a.lay.points a.n c.loop-i.i c.requires.0 c.requires.1 c.requires.2 c.loop-i-test.true c.listed.result c.listed.ensures in
    (c.requires.0, c.requires.2.rep, it.tri, c.requires.3)

pub returns-then-not-spares_tri : goal.returns-then-not-spares_tri
unfolding spares_locked
returns-then-not-spares_tri c =
    let a = c.args in
    let j = c.listed.result in
    λ m xs h k.
    let q = new_quad a.a a.b a.c a.d in
    let it = item a.w.now a.lay.slots a.lay.points a.n c.loop-i.i m xs h c.loop-i-test.true j c.listed.ensures in
    sym (sym (c.loop-i.invariant.2 m xs h k) ∙ all_stop m xs c.loop-i.i j it (spared m q) (spared_is m q j it.tri.t ∙ sym (c.spares_tri.ensures m h.rep it.tri k) ∙ c.if-not-spares_tri.true))

pub loop-i-preserved : goal.loop-i-preserved
loop-i-preserved c =
    let a = c.args in
    let j = c.listed.result in (
      omega (arith, c.loop-i-test.true),
      c.loop-i.invariant.1,
      λ m xs h k.
          let q = new_quad a.a a.b a.c a.d in
          let it = item a.w.now a.lay.slots a.lay.points a.n c.loop-i.i m xs h c.loop-i-test.true j c.listed.ensures in
          all_next m xs c.loop-i.i j it (spared m q) (spared_is m q j it.tri.t ∙ sym (c.spares_tri.ensures m h.rep it.tri k) ∙ c.if-not-spares_tri.false) ∙ c.loop-i.invariant.2 m xs h k,
    )

pub returns : goal.returns
unfolding spares_locked
returns c =
    let a = c.args in
    λ m xs h k.
    all_end (spared m (new_quad a.a a.b a.c a.d)) (drop c.loop-i.i xs) (items_end a.w.now a.lay.slots a.lay.points a.n c.loop-i.i m xs h c.loop-i-test.false) ∙ c.loop-i.invariant.2 m xs h k
