-- The loop's invariant: an edge with a that none of the cells to come has ends in the span.
-- The measure is how many links are left.
use mathlib.Core.Path.{sym, subst}
use Prim.Native.Nat.{ℕ}
use native.Mathlib.Omega.{arith}
use Rattle.candidates.proofs.Growth.{Ringed, ringed_start, ringed_read, ringed_less, ringed_more, ringed_end}
use Rattle.candidates.proofs.spans.with_ring.Goals as goal

pub next-c-requires : goal.next-c-requires
next-c-requires c =
    record { fits = omega (arith, c.requires.1.room.fits); code = omega (arith, c.requires.2, c.requires.1.points) }

pub loop-c-init : goal.loop-c-init
loop-c-init c =
    let a = c.args in
    λ m r n. subst (λ (z : ℕ). Ringed a.w.now a.lay.slots a.a z m a.g a.g) (sym c.next-c.ensures) (ringed_start a.w.now a.lay.slots a.lay.points a.a m r n a.g)

pub node_after-requires : goal.node_after-requires
node_after-requires c =
    let x = c.loop-c in
    let a = c.args in
    let m = c.requires.0 in
    ringed_read a.w.now a.lay.slots a.lay.points a.a m c.requires.1 c.requires.2 a.g x.c x.h (x.invariant m c.requires.1 c.requires.2) c.loop-c-test.true

pub node_before-requires : goal.node_before-requires
node_before-requires c =
    let x = c.loop-c in
    let a = c.args in
    let m = c.requires.0 in
    ringed_read a.w.now a.lay.slots a.lay.points a.a m c.requires.1 c.requires.2 a.g x.c x.h (x.invariant m c.requires.1 c.requires.2) c.loop-c-test.true

pub next-c-requires-in-loop-c : goal.next-c-requires-in-loop-c
next-c-requires-in-loop-c c =
    record { fits = omega (arith, c.requires.1.room.fits); code = omega (arith, c.loop-c-test.true) }

pub loop-c-smaller : goal.loop-c-smaller
loop-c-smaller c =
    let x = c.loop-c in
    let a = c.args in
    let m = c.requires.0 in
    ringed_less a.w.now a.lay.slots a.lay.points a.a m c.requires.1 c.requires.2 a.g x.c x.h (x.invariant m c.requires.1 c.requires.2) c.loop-c-test.true c.next-c-in-loop-c.result c.next-c-in-loop-c.ensures

pub loop-c-preserved : goal.loop-c-preserved
loop-c-preserved c =
    let x = c.loop-c in
    let a = c.args in
    λ m r n.
    ringed_more a.w.now a.lay.slots a.lay.points a.a m r n a.g x.c x.h (x.invariant m r n) c.loop-c-test.true
    c.node_after.result c.node_before.result c.next-c-in-loop-c.result c.widened-one.result c.widened-h.result c.node_after.ensures c.node_before.ensures c.widened-one.ensures c.widened-h.ensures c.next-c-in-loop-c.ensures

pub returns : goal.returns
returns c =
    let x = c.loop-c in
    let a = c.args in
    λ m r n. ringed_end a.w.now a.lay.slots a.lay.points a.a m r n a.g x.c x.h (x.invariant m r n) c.loop-c-test.false
