-- The region, and what becomes of it.
use Rattle.laws.specs.Kit.{sym}
use Rattle.pairs.proofs.Gives.{fill_drawn, fill_known, fill_none, fill_cells, fill_given}
use Rattle.pairs.proofs.one.fill.Goals as goal

pub region-requires : goal.region-requires
region-requires c =
    let a = c.args in
    let m = c.requires.by_index.1 in
    let g = c.requires.by_index.2 in
    (m, fill_drawn a.w.now a.q.now a.rules a.c a.seed a.quad.a a.quad.b a.quad.d a.quad.e m g, fill_known a.w.now a.q.now a.rules a.c a.seed a.quad.a a.quad.b a.quad.d a.quad.e m g, c.requires.by_index.3, sym g.ready.counted.used)

pub returns-in_default : goal.returns-in_default
returns-in_default c =
    let a = c.args in
    λ base m at₀ m₀ g l v rd.
    let dr = fill_drawn a.w.now a.q.now a.rules a.c a.seed a.quad.a a.quad.b a.quad.d a.quad.e m g in
    let kn = fill_known a.w.now a.q.now a.rules a.c a.seed a.quad.a a.quad.b a.quad.d a.quad.e m g in
    fill_none a.w.now a.q.now a.rules a.c a.seed a.quad.a a.quad.b a.quad.d a.quad.e m g base a.t.now a.log.at a.log.round v rd c.region.new.w
    (c.in_default.ensures m dr kn l (sym g.ready.counted.used)) at₀ m₀ a.flips c.requires.flips

pub give_way-requires : goal.give_way-requires
give_way-requires c =
    let a = c.args in
    let h = c.requires.by_index in
    let m = h.1 in
    let g = h.2 in
    let dr = fill_drawn a.w.now a.q.now a.rules a.c a.seed a.quad.a a.quad.b a.quad.d a.quad.e m g in
    let kn = fill_known a.w.now a.q.now a.rules a.c a.seed a.quad.a a.quad.b a.quad.d a.quad.e m g in
    let f = fill_cells a.w.now a.q.now a.rules a.c a.seed a.quad.a a.quad.b a.quad.d a.quad.e m g c.region.new.w c.in-Some.n
    (c.in-Some.ensures m dr kn h.3 (sym g.ready.counted.used)) in
    record { by_index = (h.0, m, f.xs, a.q.now, f.can, h.4, h.5); flips = c.requires.flips }

pub returns : goal.returns
returns c =
    let a = c.args in
    λ base m at₀ m₀ g l v rd.
    let dr = fill_drawn a.w.now a.q.now a.rules a.c a.seed a.quad.a a.quad.b a.quad.d a.quad.e m g in
    let kn = fill_known a.w.now a.q.now a.rules a.c a.seed a.quad.a a.quad.b a.quad.d a.quad.e m g in
    let r = c.in-Some.ensures m dr kn l (sym g.ready.counted.used) in
    let f = fill_cells a.w.now a.q.now a.rules a.c a.seed a.quad.a a.quad.b a.quad.d a.quad.e m g c.region.new.w c.in-Some.n r in
    fill_given a.w.now a.q.now a.rules a.c a.seed a.quad.a a.quad.b a.quad.d a.quad.e m g c.region.new.w c.in-Some.n r
    c.give_way.new.w base c.give_way.new.t at₀ a.log.round m₀ a.flips c.give_way.result (c.give_way.ensures base m f.xs a.q.now at₀ m₀ f.can v rd)
