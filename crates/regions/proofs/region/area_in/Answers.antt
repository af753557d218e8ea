use Rattle.laws.specs.Kit.{arith}
use Rattle.cells.proofs.Slots.{rep_see}
use Rattle.regions.proofs.Fills.{drawn_inside, three, area_is}
use Rattle.regions.proofs.region.area_in.Goals as goal

pub node-requires : goal.node-requires
node-requires c =
    let a = c.args in
    record { can_see = rep_see a.w.now a.lay.slots a.lay.points c.requires.0 c.requires.1.rep a.j (drawn_inside a.w.now a.q.now a.lay.slots a.lay.points a.j c.requires.0 c.requires.1); k_bound = omega arith }

pub node-requires-2 : goal.node-requires-2
node-requires-2 c =
    let a = c.args in
    record { can_see = rep_see a.w.now a.lay.slots a.lay.points c.requires.0 c.requires.1.rep a.j (drawn_inside a.w.now a.q.now a.lay.slots a.lay.points a.j c.requires.0 c.requires.1); k_bound = omega arith }

pub node-requires-3 : goal.node-requires-3
node-requires-3 c =
    let a = c.args in
    record { can_see = rep_see a.w.now a.lay.slots a.lay.points c.requires.0 c.requires.1.rep a.j (drawn_inside a.w.now a.q.now a.lay.slots a.lay.points a.j c.requires.0 c.requires.1); k_bound = omega arith }

pub tri_area-requires : goal.tri_area-requires
tri_area-requires c =
    let a = c.args in
    let th = three a.w.now a.q.now a.lay.slots a.lay.points a.j c.requires.0 c.requires.1 c.node.result c.node-2.result c.node-3.result c.node.ensures c.node-2.ensures c.node-3.ensures in
    (th.sx.within, th.sy.within, th.sz.within)

pub returns : goal.returns
returns c =
    let a = c.args in
    λ m h.
    let th = three a.w.now a.q.now a.lay.slots a.lay.points a.j m h c.node.result c.node-2.result c.node-3.result c.node.ensures c.node-2.ensures c.node-3.ensures in
    area_is a.q.now m h.tri.t c.node.result c.node-2.result c.node-3.result th c.tri_area.result c.tri_area.ensures
