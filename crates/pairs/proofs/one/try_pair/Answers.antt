-- The seed comes before the recovery; the flips keep it a triangle.
use Rattle.laws.specs.Kit.{not-true, not-false}
use Rattle.definition.specs.Cells.{new_quad}
use Rattle.definition.specs.Attempt.{recover_all, open_sides}
use Rattle.pairs.proofs.Locked.{all_locks_stay}
use Rattle.pairs.proofs.Tries.{try_edge, try_known, try_used, try_orphaned, try_log, try_round, try_flips, try_short, try_unrecovered, try_can_fill, try_filled}
use Rattle.pairs.proofs.one.try_pair.Goals as goal

-- ---- the seed

pub tri_owner-seed-requires : goal.tri_owner-seed-requires
tri_owner-seed-requires c =
    let a = c.args in
    let m = c.requires.1 in
    let g = c.requires.2 in
    record { rep = (m, g.ready.rep); edge = try_edge a.w.now a.q.now a.rules a.c a.u a.v a.quad.a a.quad.b a.quad.d a.quad.e m g }

pub returns-then-seed-rules : goal.returns-then-seed-rules
returns-then-seed-rules c =
    let a = c.args in
    λ base m g l v rd.
    try_orphaned a.w.now a.q.now a.rules a.c a.u a.v a.quad.a a.quad.b a.quad.d a.quad.e m g base a.t.now a.log.at a.log.round v rd c.tri_owner-seed.result
    (c.tri_owner-seed.ensures m g.ready.rep) c.if-seed-rules.true

-- ---- the sides

pub recover_all-r-requires : goal.recover_all-r-requires
recover_all-r-requires c =
    let a = c.args in
    let h = c.requires in
    let m = h.1 in
    let g = h.2 in
    record {
      by_index = (h.0, m, try_known a.w.now a.q.now a.rules a.c a.u a.v a.quad.a a.quad.b a.quad.d a.quad.e m g, try_used a.w.now a.q.now a.rules a.c a.u a.v a.quad.a a.quad.b a.quad.d a.quad.e m g, h.3, h.4);
      corners = g.corners;
    }

pub returns-then-r : goal.returns-then-r
returns-then-r c =
    let a = c.args in
    λ base m g l v rd.
    try_short a.w.now a.q.now a.rules a.c a.u a.v a.quad.a a.quad.b a.quad.d a.quad.e m g base a.t.now a.log.at a.log.round v rd c.tri_owner-seed.result
    (c.tri_owner-seed.ensures m g.ready.rep) c.if-seed-rules.false l c.recover_all-r.new.w c.recover_all-r.new.t c.recover_all-r.result c.recover_all-r.ensures c.if-r.true

pub returns-then-not-r : goal.returns-then-not-r
returns-then-not-r c =
    let a = c.args in
    λ base m g l v rd.
    try_unrecovered a.w.now a.q.now a.rules a.c a.u a.v a.quad.a a.quad.b a.quad.d a.quad.e m g base a.t.now a.log.at a.log.round v rd c.tri_owner-seed.result
    (c.tri_owner-seed.ensures m g.ready.rep) c.if-seed-rules.false l c.recover_all-r.new.w c.recover_all-r.new.t c.recover_all-r.result c.recover_all-r.ensures c.if-r.false
    (not-true c.recover_all-r.result.there c.if-not-r.true)

-- ---- the region

pub fill-requires : goal.fill-requires
fill-requires c =
    let k = c.recover_all-r in
    let o = c.tri_owner-seed in
    let a = c.args in
    let h = c.requires in
    let m = h.1 in
    let g = h.2 in
    let own = o.ensures m g.ready.rep in
    record {
      by_index = (
        h.0,
        (recover_all m (open_sides (new_quad a.quad.a a.quad.b a.quad.d a.quad.e))).mesh,
        try_can_fill a.w.now a.q.now a.rules a.c a.u a.v a.quad.a a.quad.b a.quad.d a.quad.e m g h.0 a.t.now a.log.at a.log.round h.4 h.5 o.result own c.if-seed-rules.false h.3
            k.new.w k.new.t k.result k.ensures,
        all_locks_stay a.j.now m (open_sides (new_quad a.quad.a a.quad.b a.quad.d a.quad.e)) h.3,
        try_log a.w.now a.q.now a.rules a.c a.u a.v a.quad.a a.quad.b a.quad.d a.quad.e m g h.0 a.t.now a.log.at a.log.round h.4 h.5 o.result own c.if-seed-rules.false h.3
            k.new.w k.new.t k.result k.ensures,
        try_round a.w.now a.q.now a.rules a.c a.u a.v a.quad.a a.quad.b a.quad.d a.quad.e m g h.0 a.t.now a.log.at a.log.round h.4 h.5 o.result own c.if-seed-rules.false h.3
            k.new.w k.new.t k.result k.ensures,
      );
      flips = try_flips a.w.now a.q.now a.rules a.c a.u a.v a.quad.a a.quad.b a.quad.d a.quad.e m g h.0 a.t.now a.log.at a.log.round h.4 h.5 o.result own c.if-seed-rules.false h.3
          k.new.w k.new.t k.result k.ensures;
    }

pub returns : goal.returns
returns c =
    let k = c.recover_all-r in
    let o = c.tri_owner-seed in
    let a = c.args in
    λ base m g l v rd.
    let own = o.ensures m g.ready.rep in
    let can = try_can_fill a.w.now a.q.now a.rules a.c a.u a.v a.quad.a a.quad.b a.quad.d a.quad.e m g base a.t.now a.log.at a.log.round v rd o.result own c.if-seed-rules.false l
    k.new.w k.new.t k.result k.ensures in
    let log = try_log a.w.now a.q.now a.rules a.c a.u a.v a.quad.a a.quad.b a.quad.d a.quad.e m g base a.t.now a.log.at a.log.round v rd o.result own c.if-seed-rules.false l
    k.new.w k.new.t k.result k.ensures in
    let round = try_round a.w.now a.q.now a.rules a.c a.u a.v a.quad.a a.quad.b a.quad.d a.quad.e m g base a.t.now a.log.at a.log.round v rd o.result own c.if-seed-rules.false l
    k.new.w k.new.t k.result k.ensures in
    try_filled a.w.now a.q.now a.rules a.c a.u a.v a.quad.a a.quad.b a.quad.d a.quad.e m g base a.t.now a.log.at a.log.round v rd o.result own c.if-seed-rules.false l
    k.new.w k.new.t k.result k.ensures (not-false k.result.there c.if-not-r.false) c.fill.new.w c.fill.new.t c.fill.result
    (c.fill.ensures base (recover_all m (open_sides (new_quad a.quad.a a.quad.b a.quad.d a.quad.e))).mesh a.log.at m can (all_locks_stay a.j.now m (open_sides (new_quad a.quad.a a.quad.b a.quad.d a.quad.e)) l) log round)
