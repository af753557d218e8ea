use Rattle.laws.specs.Kit.{arith}
use Rattle.cells.proofs.Slots.{rep_see}
use Rattle.regions.proofs.Fills.{drawn_inside, three, four, first_out, second_out, third_test}
use Rattle.regions.proofs.region.tri_inside.Goals as goal

pub node-x-requires : goal.node-x-requires
node-x-requires c =
    let a = c.args in
    record { can_see = rep_see a.w.now a.lay.slots a.lay.points c.requires.0 c.requires.1.rep a.j (drawn_inside a.w.now a.q.now a.lay.slots a.lay.points a.j c.requires.0 c.requires.1); k_bound = omega arith }

pub node-y-requires : goal.node-y-requires
node-y-requires c =
    let a = c.args in
    record { can_see = rep_see a.w.now a.lay.slots a.lay.points c.requires.0 c.requires.1.rep a.j (drawn_inside a.w.now a.q.now a.lay.slots a.lay.points a.j c.requires.0 c.requires.1); k_bound = omega arith }

pub node-z-requires : goal.node-z-requires
node-z-requires c =
    let a = c.args in
    record { can_see = rep_see a.w.now a.lay.slots a.lay.points c.requires.0 c.requires.1.rep a.j (drawn_inside a.w.now a.q.now a.lay.slots a.lay.points a.j c.requires.0 c.requires.1); k_bound = omega arith }

pub inside_quad-requires : goal.inside_quad-requires
inside_quad-requires c =
    let a = c.args in
    let th = three a.w.now a.q.now a.lay.slots a.lay.points a.j c.requires.0 c.requires.1 c.node-x.result c.node-y.result c.node-z.result c.node-x.ensures c.node-y.ensures c.node-z.ensures in
    let fo = four a.q.now a.lay.points c.requires.0 c.requires.1.pts a.a a.b a.c a.d c.requires.2 in
    (fo.sa.within, fo.sb.within, fo.sc.within, fo.sd.within, th.sx.within)

pub returns-then-not-inside_quad : goal.returns-then-not-inside_quad
returns-then-not-inside_quad c =
    let a = c.args in
    λ m h k.
    let th = three a.w.now a.q.now a.lay.slots a.lay.points a.j m h c.node-x.result c.node-y.result c.node-z.result c.node-x.ensures c.node-y.ensures c.node-z.ensures in
    let fo = four a.q.now a.lay.points m h.pts a.a a.b a.c a.d k in
    first_out a.q.now m a.a a.b a.c a.d fo a.j h.tri.t c.node-x.result c.node-y.result c.node-z.result th c.inside_quad.result c.inside_quad.ensures c.if-not-inside_quad.true

pub inside_quad-requires-2 : goal.inside_quad-requires-2
inside_quad-requires-2 c =
    let a = c.args in
    let th = three a.w.now a.q.now a.lay.slots a.lay.points a.j c.requires.0 c.requires.1 c.node-x.result c.node-y.result c.node-z.result c.node-x.ensures c.node-y.ensures c.node-z.ensures in
    let fo = four a.q.now a.lay.points c.requires.0 c.requires.1.pts a.a a.b a.c a.d c.requires.2 in
    (fo.sa.within, fo.sb.within, fo.sc.within, fo.sd.within, th.sy.within)

pub returns-then-not-inside_quad-2 : goal.returns-then-not-inside_quad-2
returns-then-not-inside_quad-2 c =
    let a = c.args in
    λ m h k.
    let th = three a.w.now a.q.now a.lay.slots a.lay.points a.j m h c.node-x.result c.node-y.result c.node-z.result c.node-x.ensures c.node-y.ensures c.node-z.ensures in
    let fo = four a.q.now a.lay.points m h.pts a.a a.b a.c a.d k in
    second_out a.q.now m a.a a.b a.c a.d fo a.j h.tri.t c.node-x.result c.node-y.result c.node-z.result th c.inside_quad.result c.inside_quad.ensures c.if-not-inside_quad.false c.inside_quad-2.result c.inside_quad-2.ensures c.if-not-inside_quad-2.true

pub inside_quad-requires-3 : goal.inside_quad-requires-3
inside_quad-requires-3 c =
    let a = c.args in
    let th = three a.w.now a.q.now a.lay.slots a.lay.points a.j c.requires.0 c.requires.1 c.node-x.result c.node-y.result c.node-z.result c.node-x.ensures c.node-y.ensures c.node-z.ensures in
    let fo = four a.q.now a.lay.points c.requires.0 c.requires.1.pts a.a a.b a.c a.d c.requires.2 in
    (fo.sa.within, fo.sb.within, fo.sc.within, fo.sd.within, th.sz.within)

pub returns : goal.returns
returns c =
    let a = c.args in
    λ m h k.
    let th = three a.w.now a.q.now a.lay.slots a.lay.points a.j m h c.node-x.result c.node-y.result c.node-z.result c.node-x.ensures c.node-y.ensures c.node-z.ensures in
    let fo = four a.q.now a.lay.points m h.pts a.a a.b a.c a.d k in
    third_test a.q.now m a.a a.b a.c a.d fo a.j h.tri.t c.node-x.result c.node-y.result c.node-z.result th c.inside_quad.result c.inside_quad.ensures c.if-not-inside_quad.false c.inside_quad-2.result c.inside_quad-2.ensures c.if-not-inside_quad-2.false c.inside_quad-3.result c.inside_quad-3.ensures
