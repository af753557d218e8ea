use Rattle.laws.specs.Kit.{refl, sym, ◌∙◌, ap, arith, foldl, Float}
use Rattle.definition.specs.Floats.{◌⊕◌, 0·0, f64}
use Rattle.definition.specs.Cells.{Live}
use Rattle.definition.specs.Region.{area_of, region_area}
use Rattle.regions.specs.Fill.{Drawn}
use Rattle.regions.proofs.Listings.{few}
use Rattle.regions.proofs.Fills.{item, item_can, items_end, sum_next}
use Rattle.regions.proofs.region.region_area.Goals as goal

pub loop-i-init : goal.loop-i-init
unfolding region_area 0·0 f64
loop-i-init c =
    (omega arith, omega (arith, few c.requires.2.list, c.requires.2.list.rep.used, c.requires.2.list.rep.room.small), λ m xs h. refl)

pub listed-requires : goal.listed-requires
listed-requires c =
    let a = c.args in
    item_can a.w.now a.lay.slots a.lay.points a.n c.loop-i.i c.requires.0 c.requires.1 c.requires.2.list c.loop-i-test.true

pub area_in-sum-requires : goal.area_in-sum-requires
area_in-sum-requires c =
    let a = c.args in
    let it = item a.w.now a.lay.slots a.lay.points a.n c.loop-i.i c.requires.0 c.requires.1 c.requires.2.list c.loop-i-test.true c.listed.result c.listed.ensures in
    (c.requires.0, record { rep = c.requires.2.list.rep; pts = c.requires.2.pts; tri = it.tri })

pub loop-i-preserved : goal.loop-i-preserved
unfolding ◌⊕◌
loop-i-preserved c =
    let a = c.args in (
      omega (arith, c.loop-i-test.true),
      c.loop-i.invariant.1,
      λ m xs h.
          let it = item a.w.now a.lay.slots a.lay.points a.n c.loop-i.i m xs h.list c.loop-i-test.true c.listed.result c.listed.ensures in
          let dr : Drawn a.w.now a.q.now a.lay.slots a.lay.points c.listed.result m = record { rep = h.list.rep; pts = h.pts; tri = it.tri } in
          sum_next m xs c.loop-i.i c.listed.result it c.loop-i.sum c.area_in-sum.result (c.area_in-sum.ensures m dr) ∙ c.loop-i.invariant.2 m xs h,
    )

pub returns : goal.returns
returns c =
    let a = c.args in
    λ m xs h. sym (ap (foldl (λ (v : Float) (x : Live). v ⊕ area_of m x.cell) c.loop-i.sum) (items_end a.w.now a.lay.slots a.lay.points a.n c.loop-i.i m xs h.list c.loop-i-test.false)) ∙ c.loop-i.invariant.2 m xs h
