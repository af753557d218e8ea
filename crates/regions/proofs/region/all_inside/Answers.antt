use Rattle.laws.specs.Kit.{refl, sym, ◌∙◌, arith, drop}
use Rattle.definition.specs.Cells.{new_quad}
use Rattle.definition.specs.Region.{cell_inside}
use Rattle.regions.specs.Fill.{Drawn}
use Rattle.regions.proofs.Listings.{few}
use Rattle.regions.proofs.Fills.{item, item_can, items_end, all_next, all_stop, all_end}
use Rattle.regions.proofs.region.all_inside.Goals as goal

pub loop-i-init : goal.loop-i-init
loop-i-init c =
    (omega arith, omega (arith, few c.requires.2.list, c.requires.2.list.rep.used, c.requires.2.list.rep.room.small), λ m xs h k. refl)

pub listed-requires : goal.listed-requires
listed-requires c =
    let a = c.args in
    item_can a.w.now a.lay.slots a.lay.points a.n c.loop-i.i c.requires.0 c.requires.1 c.requires.2.list c.loop-i-test.true

pub tri_inside-requires : goal.tri_inside-requires
tri_inside-requires c =
    let a = c.args in
    let it = item a.w.now a.lay.slots a.lay.points a.n c.loop-i.i c.requires.0 c.requires.1 c.requires.2.list c.loop-i-test.true c.listed.result c.listed.ensures in
    (c.requires.0, record { rep = c.requires.2.list.rep; pts = c.requires.2.pts; tri = it.tri }, c.requires.3)

pub returns-then-not-tri_inside : goal.returns-then-not-tri_inside
returns-then-not-tri_inside c =
    let a = c.args in
    λ m xs h k.
    let it = item a.w.now a.lay.slots a.lay.points a.n c.loop-i.i m xs h.list c.loop-i-test.true c.listed.result c.listed.ensures in
    let dr : Drawn a.w.now a.q.now a.lay.slots a.lay.points c.listed.result m = record { rep = h.list.rep; pts = h.pts; tri = it.tri } in
    sym (sym (c.loop-i.invariant.2 m xs h k) ∙ all_stop m xs c.loop-i.i c.listed.result it (cell_inside m (new_quad a.a a.b a.c a.d)) (sym (c.tri_inside.ensures m dr k) ∙ c.if-not-tri_inside.true))

pub loop-i-preserved : goal.loop-i-preserved
loop-i-preserved c =
    let a = c.args in (
      omega (arith, c.loop-i-test.true),
      c.loop-i.invariant.1,
      λ m xs h k.
          let it = item a.w.now a.lay.slots a.lay.points a.n c.loop-i.i m xs h.list c.loop-i-test.true c.listed.result c.listed.ensures in
          let dr : Drawn a.w.now a.q.now a.lay.slots a.lay.points c.listed.result m = record { rep = h.list.rep; pts = h.pts; tri = it.tri } in
          all_next m xs c.loop-i.i c.listed.result it (cell_inside m (new_quad a.a a.b a.c a.d)) (sym (c.tri_inside.ensures m dr k) ∙ c.if-not-tri_inside.false) ∙ c.loop-i.invariant.2 m xs h k,
    )

pub returns : goal.returns
returns c =
    let a = c.args in
    λ m xs h k. all_end (cell_inside m (new_quad a.a a.b a.c a.d)) (drop c.loop-i.i xs) (items_end a.w.now a.lay.slots a.lay.points a.n c.loop-i.i m xs h.list c.loop-i-test.false) ∙ c.loop-i.invariant.2 m xs h k
