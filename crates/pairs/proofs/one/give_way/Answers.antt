-- The region is refused as odd, finds no slot, has no room in the trace, or gives way.
use Rattle.std.specs.Prelude.{◌+◌}
use Rattle.laws.specs.Kit.{sym, ◌∙◌, rules, lt-ltb, le-ltb}
use Rattle.definition.specs.Cells.{was_placed}
use Rattle.definition.specs.Attempt.{replaced}
use Rattle.pairs.specs.Steps.{grown}
use Rattle.pairs.proofs.Entries.{ids, replaced_notes, entry_length}
use Rattle.pairs.proofs.Gives.{give_most, give_small, give_few, give_push, give_odd, give_enter, give_full, give_short, give_made}
use Rattle.pairs.proofs.one.give_way.Goals as goal

pub refuses_odd-requires : goal.refuses_odd-requires
refuses_odd-requires c = let h = c.requires.by_index in (h.1, h.2, h.4.listed, sym h.4.ready.counted.used, h.4.ready.counted.live)

pub returns-then-refuses_odd : goal.returns-then-refuses_odd
returns-then-refuses_odd c =
    let a = c.args in
    λ base m xs q at₀ m₀ g v rd.
    let odd = c.refuses_odd.ensures m xs g.listed (sym g.ready.counted.used) g.ready.counted.live in
    give_odd a.w.now q a.rules a.c a.n a.quad.a a.quad.b a.quad.d a.quad.e m xs g base a.t.now a.log.at a.log.round v rd c.refuses_odd.new.w c.refuses_odd.result
    odd at₀ m₀ a.flips c.requires.flips c.if-refuses_odd.true

pub overflow_add-words : goal.overflow_add-words
overflow_add-words c =
    let a = c.args in
    let h = c.requires.by_index in
    let few = give_small a.w.now h.3 a.rules a.c a.n a.quad.a a.quad.b a.quad.d a.quad.e h.1 h.2 h.4 in
    search rules

pub returns-then-full : goal.returns-then-full
returns-then-full c =
    let a = c.args in
    λ base m xs q at₀ m₀ g v rd.
    let odd = c.refuses_odd.ensures m xs g.listed (sym g.ready.counted.used) g.ready.counted.live in
    give_full a.w.now q a.rules a.c a.n a.quad.a a.quad.b a.quad.d a.quad.e m xs g base a.t.now a.log.at a.log.round v rd c.refuses_odd.new.w c.refuses_odd.result
    odd at₀ m₀ a.flips c.requires.flips c.if-refuses_odd.false (lt-ltb a.rules.lay.slots (a.c.used + 1) c.if-full.true)

pub returns-then-cramped : goal.returns-then-cramped
returns-then-cramped c =
    let a = c.args in
    λ base m xs q at₀ m₀ g v rd.
    let odd = c.refuses_odd.ensures m xs g.listed (sym g.ready.counted.used) g.ready.counted.live in
    let k = grown m a.n a.quad.a a.quad.b a.quad.d a.quad.e in
    let room = c.fits-cramped.ensures base m (replaced m k xs) (was_placed k (ids xs)) v (replaced_notes m k xs) (entry_length k xs a.n g.listed.len) in
    give_short a.w.now q a.rules a.c a.n a.quad.a a.quad.b a.quad.d a.quad.e m xs g base a.t.now a.log.at a.log.round v rd c.refuses_odd.new.w c.refuses_odd.result
    odd at₀ m₀ a.flips c.requires.flips c.if-refuses_odd.false (le-ltb a.rules.lay.slots (a.c.used + 1) c.if-full.false) (sym room ∙ c.if-cramped.true)

pub enter-at-requires : goal.enter-at-requires
enter-at-requires c =
    let a = c.args in
    let h = c.requires.by_index in
    let m = h.1 in
    let xs = h.2 in
    let g = h.4 in
    let odd = c.refuses_odd.ensures m xs g.listed (sym g.ready.counted.used) g.ready.counted.live in
    let k = grown m a.n a.quad.a a.quad.b a.quad.d a.quad.e in
    let room = c.fits-cramped.ensures h.0 m (replaced m k xs) (was_placed k (ids xs)) h.5 (replaced_notes m k xs) (entry_length k xs a.n g.listed.len) in (
      h.0,
      m,
      xs,
      give_enter a.w.now h.3 a.rules a.c a.n a.quad.a a.quad.b a.quad.d a.quad.e m xs g c.refuses_odd.new.w h.0 a.t.now a.log odd.listed h.5 h.6
          (sym room ∙ c.if-cramped.false),
    )

pub place_noted-requires : goal.place_noted-requires
place_noted-requires c =
    let a = c.args in
    let h = c.requires.by_index in
    let m = h.1 in
    let xs = h.2 in
    let g = h.4 in
    let odd = c.refuses_odd.ensures m xs g.listed (sym g.ready.counted.used) g.ready.counted.live in (
      m,
      xs,
      odd.listed,
      give_push a.w.now h.3 a.rules a.c a.n a.quad.a a.quad.b a.quad.d a.quad.e m xs g c.if-full.false,
    )

pub placed-requires : goal.placed-requires
placed-requires c =
    let a = c.args in
    let h = c.requires.by_index in
    record {
      few = give_few a.w.now h.3 a.rules a.c a.n a.quad.a a.quad.b a.quad.d a.quad.e h.1 h.2 h.4;
      gone_le_live = give_most a.w.now h.3 a.rules a.c a.n a.quad.a a.quad.b a.quad.d a.quad.e h.1 h.2 h.4;
    }

pub returns : goal.returns
returns c =
    let a = c.args in
    λ base m xs q at₀ m₀ g v rd.
    let odd = c.refuses_odd.ensures m xs g.listed (sym g.ready.counted.used) g.ready.counted.live in
    let k = grown m a.n a.quad.a a.quad.b a.quad.d a.quad.e in
    let room = c.fits-cramped.ensures base m (replaced m k xs) (was_placed k (ids xs)) v (replaced_notes m k xs) (entry_length k xs a.n g.listed.len) in
    let fit = sym room ∙ c.if-cramped.false in
    let can = give_enter a.w.now q a.rules a.c a.n a.quad.a a.quad.b a.quad.d a.quad.e m xs g c.refuses_odd.new.w base a.t.now a.log odd.listed v rd fit in
    give_made a.w.now q a.rules a.c a.n a.quad.a a.quad.b a.quad.d a.quad.e m xs g base a.t.now a.log.at a.log.round v rd c.refuses_odd.new.w c.refuses_odd.result
    odd at₀ m₀ a.flips c.requires.flips c.if-refuses_odd.false (le-ltb a.rules.lay.slots (a.c.used + 1) c.if-full.false) fit c.enter-at.new.t c.enter-at.result (c.enter-at.ensures base m xs can) c.place_noted.new.w
    c.place_noted.ensures c.placed.result c.placed.ensures
