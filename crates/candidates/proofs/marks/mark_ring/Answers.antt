-- The loop's invariant: the words of the ends of edges with a that none of the cells to come has are raised.
-- The measure is how many links are left.
use mathlib.Core.Path.{refl, sym, ◌∙◌, subst}
use Prim.Native.Nat.{ℕ}
use native.Mathlib.Omega.{arith}
use Rattle.candidates.proofs.Words.{Raising, risen_trans, spare_kept, raising_start, raising_less, raising_read, raising_after, raising_before, raising_next, raising_known, raising_known_2, raising_self, raising_more, raising_end}
use Rattle.candidates.proofs.marks.mark_ring.Goals as goal

pub next-c-requires : goal.next-c-requires
next-c-requires c =
    record { fits = omega (arith, c.requires.rep.1.room.fits); code = omega (arith, c.requires.rep.2, c.requires.rep.1.points) }

pub loop-c-init : goal.loop-c-init
loop-c-init c =
    let a = c.args in
    (refl, λ m r n. subst (λ (z : ℕ). Raising a.w.now a.w.now a.lay.slots a.lay.points a.b a.a z m) (sym c.next-c.ensures) (raising_start a.w.now a.lay.slots a.lay.points a.b a.a m r n))

pub node_after-requires : goal.node_after-requires
node_after-requires c =
    let x = c.loop-c in
    let a = c.args in
    let m = c.requires.rep.0 in
    let r = c.requires.rep.1 in
    let n = c.requires.rep.2 in
    let k = x.invariant.1 m r n in
    raising_read a.w.now a.lay.slots a.lay.points a.b a.a m r n x.w x.c k c.loop-c-test.true c.requires.can_mark.from x.w
    (raising_self a.w.now a.lay.slots a.lay.points a.b a.a m r n x.w x.c k c.loop-c-test.true c.requires.can_mark.from)

pub raise-requires : goal.raise-requires
raise-requires c =
    let x = c.loop-c in
    let a = c.args in
    let m = c.requires.rep.0 in
    let r = c.requires.rep.1 in
    let n = c.requires.rep.2 in
    let k = x.invariant.1 m r n in record {
      spare = spare_kept a.w.now x.w a.lay.points a.b x.invariant.0 c.requires.can_mark.spare;
      v_lt_p = raising_known a.w.now a.lay.slots a.lay.points a.b a.a m r n x.w x.c k c.loop-c-test.true c.requires.can_mark.from x.w
          (raising_self a.w.now a.lay.slots a.lay.points a.b a.a m r n x.w x.c k c.loop-c-test.true c.requires.can_mark.from) c.node_after.result c.node_after.ensures;
    }

pub node_before-requires : goal.node_before-requires
node_before-requires c =
    let x = c.loop-c in
    let a = c.args in
    let m = c.requires.rep.0 in
    let r = c.requires.rep.1 in
    let n = c.requires.rep.2 in
    raising_read a.w.now a.lay.slots a.lay.points a.b a.a m r n x.w x.c (x.invariant.1 m r n) c.loop-c-test.true c.requires.can_mark.from c.raise.new.w c.raise.ensures.risen

pub raise-requires-in-loop-c : goal.raise-requires-in-loop-c
raise-requires-in-loop-c c =
    let x = c.loop-c in
    let a = c.args in
    let m = c.requires.rep.0 in
    let r = c.requires.rep.1 in
    let n = c.requires.rep.2 in record { spare = spare_kept a.w.now c.raise.new.w a.lay.points a.b (c.raise.auto.w ∙ x.invariant.0) c.requires.can_mark.spare; v_lt_p = raising_known_2 a.w.now a.lay.slots a.lay.points a.b a.a m r n x.w x.c (x.invariant.1 m r n) c.loop-c-test.true c.requires.can_mark.from c.raise.new.w c.raise.ensures.risen c.node_before.result c.node_before.ensures }

pub next-c-requires-in-loop-c : goal.next-c-requires-in-loop-c
next-c-requires-in-loop-c c =
    record { fits = omega (arith, c.requires.rep.1.room.fits, c.raise-in-loop-c.auto.w, c.raise.auto.w, c.loop-c.invariant.0); code = omega (arith, c.loop-c-test.true) }

pub loop-c-smaller : goal.loop-c-smaller
loop-c-smaller c =
    let x = c.loop-c in
    let a = c.args in
    let m = c.requires.rep.0 in
    let r = c.requires.rep.1 in
    let n = c.requires.rep.2 in
    let k = x.invariant.1 m r n in
    let o = risen_trans x.w c.raise.new.w c.raise-in-loop-c.new.w a.lay.points a.b c.raise.ensures.risen c.raise-in-loop-c.ensures.risen in
    raising_less a.w.now a.lay.slots a.lay.points a.b a.a m r n x.w x.c k c.loop-c-test.true c.requires.can_mark.from c.next-c-in-loop-c.result
    (raising_next a.w.now a.lay.slots a.lay.points a.b a.a m r n x.w x.c k c.loop-c-test.true c.requires.can_mark.from c.raise-in-loop-c.new.w o c.next-c-in-loop-c.result c.next-c-in-loop-c.ensures)

pub loop-c-preserved : goal.loop-c-preserved
loop-c-preserved c =
    let x = c.loop-c in
    let a = c.args in
    let w = a.w.now in
    let w1 = c.raise.new.w in
    let w2 = c.raise-in-loop-c.new.w in (
      c.raise-in-loop-c.auto.w ∙ c.raise.auto.w ∙ x.invariant.0,
      λ m r n.
          let k = x.invariant.1 m r n in
          let h = c.loop-c-test.true in
          let f = c.requires.can_mark.from in
          let o = risen_trans x.w w1 w2 a.lay.points a.b c.raise.ensures.risen c.raise-in-loop-c.ensures.risen in
          raising_more w a.lay.slots a.lay.points a.b a.a m r n x.w x.c k h f w1 w2 c.node_after.result c.node_before.result c.next-c-in-loop-c.result
          (raising_after w a.lay.slots a.lay.points a.b a.a m r n x.w x.c k h f x.w (raising_self w a.lay.slots a.lay.points a.b a.a m r n x.w x.c k h f) c.node_after.result c.node_after.ensures)
          (raising_before w a.lay.slots a.lay.points a.b a.a m r n x.w x.c k h f w1 c.raise.ensures.risen c.node_before.result c.node_before.ensures)
          c.raise.ensures c.raise-in-loop-c.ensures (raising_next w a.lay.slots a.lay.points a.b a.a m r n x.w x.c k h f w2 o c.next-c-in-loop-c.result c.next-c-in-loop-c.ensures),
    )

pub returns : goal.returns
returns c =
    let x = c.loop-c in
    let a = c.args in
    λ m r n. raising_end a.w.now a.lay.slots a.lay.points a.b a.a m r n x.w x.c (x.invariant.1 m r n) c.loop-c-test.false

pub shape_of-w : goal.shape_of-w
shape_of-w c = c.loop-c.invariant.0
