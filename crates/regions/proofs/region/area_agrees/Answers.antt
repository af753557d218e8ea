use Rattle.regions.proofs.Fills.{four, agrees_is}
use Rattle.regions.proofs.region.area_agrees.Goals as goal

pub quad_area-requires : goal.quad_area-requires
quad_area-requires c =
    let a = c.args in
    let fo = four a.q.now a.lay.points c.requires.0 c.requires.2.pts a.a a.b a.c a.d c.requires.3 in
    (fo.sa.within, fo.sb.within, fo.sc.within, fo.sd.within)

pub region_area-sum-requires : goal.region_area-sum-requires
region_area-sum-requires c =
    (c.requires.0, c.requires.1, c.requires.2)

pub returns : goal.returns
returns c =
    let a = c.args in
    λ m xs h k.
    let fo = four a.q.now a.lay.points m h.pts a.a a.b a.c a.d k in
    agrees_is a.q.now m a.a a.b a.c a.d fo xs c.quad_area.result c.quad_area.ensures c.abs-expected.result c.abs-expected.ensures
    c.region_area-sum.result (c.region_area-sum.ensures m xs h) c.abs.result c.abs.ensures c.greater.result c.greater.ensures
