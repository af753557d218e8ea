-- The loop's invariant: from each place of the ring, the cells that are left have the same owners.
-- The measure is how many links are left.
use mathlib.Core.Path.{◌≡◌, refl, sym, ◌∙◌}
use native.Mathlib.Omega.{arith}
use Rattle.rings.specs.Rings.{nx}
use Rattle.cells.specs.Layout.{rings_at}
use Rattle.cells.proofs.Walks.{pos_walk, seek_end, seek_hit, seek_miss, can_read, sought_from}
use Rattle.cells.proofs.find.seek.Goals as goal

pub loop-c-init : goal.loop-c-init
loop-c-init c =
    λ rest h. record { rest' = rest; here = h; same = refl; fewer = omega arith }

pub is_beside-requires : goal.is_beside-requires
is_beside-requires c =
    let a = c.args in
    let x = c.loop-c in
    let h = x.invariant c.requires.pos.0 c.requires.pos.1 in
    can_read a.w.now a.lay.slots a.lay.points a.u x.c h.rest' h.here c.loop-c-test.true

pub returns-then-is_beside : goal.returns-then-is_beside
returns-then-is_beside c =
    let a = c.args in
    let x = c.loop-c in
    λ rest at.
    let h = x.invariant rest at in
    sought_from a.w.now a.lay.slots a.lay.points a.u a.v x.c rest h.rest' h.same h.fewer
    (seek_hit a.w.now a.lay.slots a.lay.points a.u x.c h.rest' h.here c.loop-c-test.true a.v c.requires.edge.apart (sym c.is_beside.ensures ∙ c.if-is_beside.true))

pub next-c-requires : goal.next-c-requires
next-c-requires c =
    let a = c.args in
    let x = c.loop-c in
    let h = x.invariant c.requires.pos.0 c.requires.pos.1 in
    record { fits = omega (arith, h.here.room.fits); code = omega arith }

pub loop-c-smaller : goal.loop-c-smaller
loop-c-smaller c =
    let a = c.args in
    let x = c.loop-c in
    let h = x.invariant c.requires.pos.0 c.requires.pos.1 in
    let m = seek_miss a.w.now a.lay.slots a.lay.points a.u x.c h.rest' h.here c.loop-c-test.true a.v c.requires.edge.apart (sym c.is_beside.ensures ∙ c.if-is_beside.false) in
    let e : c.next-c.result ≡ nx a.w.now (rings_at a.lay.slots) x.c = c.next-c.ensures in
    rw (e, pos_walk a.w.now a.lay.slots a.lay.points a.u _ m.rest' m.then, pos_walk a.w.now a.lay.slots a.lay.points a.u x.c h.rest' h.here) m.less

pub loop-c-preserved : goal.loop-c-preserved
loop-c-preserved c =
    let a = c.args in
    let x = c.loop-c in
    λ rest at.
    let h = x.invariant rest at in
    let m = seek_miss a.w.now a.lay.slots a.lay.points a.u x.c h.rest' h.here c.loop-c-test.true a.v c.requires.edge.apart (sym c.is_beside.ensures ∙ c.if-is_beside.false) in
    record { rest' = m.rest'; here = rw c.next-c.ensures m.then; same = h.same ∙ m.own_is; fewer = omega (arith, h.fewer, m.less) }

pub returns : goal.returns
returns c =
    let a = c.args in
    let x = c.loop-c in
    λ rest at.
    let h = x.invariant rest at in
    sought_from a.w.now a.lay.slots a.lay.points a.u a.v x.c rest h.rest' h.same h.fewer
    (seek_end a.w.now a.lay.slots a.lay.points a.u x.c h.rest' h.here c.loop-c-test.false a.v c.requires.edge.apart)
