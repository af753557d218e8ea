use Rattle.definition.specs.Cells.{remove_cells}
use Rattle.regions.proofs.Places.{replacing, can_push}
use Rattle.regions.proofs.place.place_quad.Goals as goal

pub push_quad-requires : goal.push_quad-requires
push_quad-requires c =
    let a = c.args in
    (remove_cells c.requires.0 c.requires.1, c.remove_listed.ensures.rep c.requires.0 c.requires.1 c.requires.2, can_push c.requires.0 c.requires.1 a.lay.slots a.used a.a a.b a.c a.d c.requires.3)

pub returns : goal.returns
returns c =
    let a = c.args in
    replacing a.w.now c.remove_listed.new.w c.push_quad.new.w a.lay.slots a.lay.points a.used a.n a.a a.b a.c a.d c.remove_listed.ensures c.push_quad.ensures
