-- The note is forgotten, then the node is stored and its corner linked.
use Rattle.laws.specs.Kit.{◌∙◌, arith, length-set}
use Rattle.laws.specs.Frames.{keeps_trans}
use Rattle.cells.specs.Layout.{fronts_at}
use Rattle.meshes.proofs.Puts.{forget_filling, place_can, place_done, place_keeps}
use Rattle.meshes.proofs.store.place.Goals as goal

pub link-requires : goal.link-requires
link-requires c =
    let a = c.args in
    let f = c.requires in
    let g = c.forget in
    let h = forget_filling a.w.now g.new.w a.lay.slots a.lay.points f.n a.i a.a f.m f.ns (omega (arith, f.many, f.few)) g.ensures f.is in
    place_can g.new.w a.lay.slots a.lay.points f.n a.i a.k a.a f.m f.ns h f.many f.few f.node

pub shape_of-w : goal.shape_of-w
shape_of-w c =
    c.link.ensures.kept.len ∙ simp length-set c.forget.ensures.under.len

pub returns : goal.returns
returns c =
    let a = c.args in
    let g = c.forget in
    let q = c.link in
    let e = fronts_at a.lay.slots a.lay.points in
    record {
      is = λ n m ns f z.
          let h = forget_filling a.w.now g.new.w a.lay.slots a.lay.points n a.i a.a m ns (omega (arith, z, c.requires.few)) g.ensures f in
          place_done g.new.w a.lay.slots a.lay.points n a.i a.k a.a m ns h z c.requires.few c.requires.node q.new.w q.ensures g.ensures.none;
      keeps = keeps_trans a.w.now g.new.w q.new.w e g.ensures.keeps
          (place_keeps g.new.w q.new.w a.lay.slots a.lay.points a.i a.k a.a c.requires.is.inside c.requires.few q.ensures);
    }
