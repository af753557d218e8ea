-- Of the triangles that follow in the ring and have y or z, those passed are listed.
-- The measure is how many links are left.
use Rattle.laws.specs.Kit.{arith}
use Rattle.components.proofs.Seeks.{passed_start, passed_end, passed_cell, passed_seen, passed_less, passed_found, passed_on}
use Rattle.components.proofs.around.next_new.Goals as goal

pub is_new-requires : goal.is_new-requires
is_new-requires c =
    let h = c.requires.by_index in
    let g = c.loop-c.invariant h.0 h.1 h.2 h.3 h.4 h.5 in
    (h.1, h.2, h.3, passed_cell g c.loop-c-test.true, passed_seen g c.loop-c-test.true)

pub returns-then-is_new : goal.returns-then-is_new
returns-then-is_new c = λ u k m xs rest a.
    let g = c.loop-c.invariant u k m xs rest a in
    let h = c.loop-c-test.true in
    passed_found g h c.is_new.result (c.is_new.ensures k m xs (passed_cell g h) (passed_seen g h)) c.if-is_new.true

pub next-c-requires : goal.next-c-requires
next-c-requires c =
    record { fits = omega (arith, c.requires.room.fits); code = omega (arith, c.loop-c-test.true) }

pub loop-c-smaller : goal.loop-c-smaller
loop-c-smaller c =
    let h = c.requires.by_index in
    rw c.next-c.ensures (passed_less (c.loop-c.invariant h.0 h.1 h.2 h.3 h.4 h.5) c.loop-c-test.true)

pub loop-c-preserved : goal.loop-c-preserved
loop-c-preserved c = λ u k m xs rest a.
    let g = c.loop-c.invariant u k m xs rest a in
    let h = c.loop-c-test.true in
    rw c.next-c.ensures (passed_on g h c.is_new.result (c.is_new.ensures k m xs (passed_cell g h) (passed_seen g h)) c.if-is_new.false)

pub loop-c-init : goal.loop-c-init
loop-c-init c = λ u k m xs rest a. passed_start c.args.y c.args.z a

pub returns : goal.returns
returns c = λ u k m xs rest a. passed_end (c.loop-c.invariant u k m xs rest a) c.loop-c-test.false
