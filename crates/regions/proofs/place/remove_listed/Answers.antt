use Rattle.laws.specs.Kit.{refl, ◌∙◌, arith}
use Rattle.laws.specs.Frames.{keeps_refl, keeps_trans}
use Rattle.cells.specs.Layout.{mesh_end}
use Rattle.regions.proofs.Listings.{few}
use Rattle.regions.proofs.Places.{remove_start, remove_end, remove_more, removed_inside}
use Rattle.regions.proofs.place.remove_listed.Goals as goal

pub loop-i-init : goal.loop-i-init
loop-i-init c =
    let a = c.args in
    (refl, omega arith, omega (arith, few c.requires.2, c.requires.2.rep.used), omega (arith, c.requires.2.rep.room.small), keeps_refl a.w.now (mesh_end a.lay.slots a.lay.points), λ m xs h. remove_start a.w.now a.lay.slots a.lay.points a.n m xs h)

pub listed-j-requires : goal.listed-j-requires
listed-j-requires c =
    let a = c.args in
    record { fits = omega (arith, c.requires.2.rep.room.fits, c.loop-i.invariant.0); small = c.requires.2.rep.room.small; inside = omega (arith, c.loop-i-test.true, c.loop-i.invariant.2) }

pub remove_cell-requires : goal.remove_cell-requires
remove_cell-requires c =
    let a = c.args in
    let g = c.loop-i.invariant.5 c.requires.0 c.requires.1 c.requires.2 in
    record { rep = (g.now, g.rep); i_lt_s = removed_inside a.w.now c.loop-i.w a.lay.slots a.lay.points a.n c.loop-i.i c.requires.0 c.requires.1 c.requires.2 c.loop-i.invariant.4 g c.loop-i-test.true c.listed-j.result c.listed-j.ensures }

pub loop-i-preserved : goal.loop-i-preserved
loop-i-preserved c =
    let a = c.args in (
      c.remove_cell.auto.w ∙ c.loop-i.invariant.0,
      omega (arith, c.loop-i-test.true),
      c.loop-i.invariant.2,
      c.loop-i.invariant.3,
      keeps_trans a.w.now c.loop-i.w c.remove_cell.new.w (mesh_end a.lay.slots a.lay.points) c.loop-i.invariant.4 c.remove_cell.ensures.keeps,
      λ m xs h. remove_more a.w.now c.loop-i.w a.lay.slots a.lay.points a.n c.loop-i.i m xs h c.loop-i.invariant.4 (c.loop-i.invariant.5 m xs h) c.loop-i-test.true c.listed-j.result c.listed-j.ensures c.remove_cell.new.w c.remove_cell.ensures,
    )

pub returns : goal.returns
returns c =
    let a = c.args in
    record { rep = λ m xs h. remove_end a.w.now c.loop-i.w a.lay.slots a.lay.points a.n c.loop-i.i m xs h c.loop-i.invariant.4 (c.loop-i.invariant.5 m xs h) c.loop-i-test.false; keeps = c.loop-i.invariant.4 }

pub shape_of-w : goal.shape_of-w
shape_of-w c = c.loop-i.invariant.0
