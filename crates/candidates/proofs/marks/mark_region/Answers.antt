use mathlib.Core.Path.{ap, ◌∙◌}
use Prim.Native.Nat.{ℕ, ◌+◌}
use lib.ListN.{get_or}
use Rattle.side_candidates.proofs.Scans.{scan_here}
use Rattle.candidates.proofs.Words.{can_kept, marking_start, marking_word, marking_rep, marking_more, marking_end}
use Rattle.candidates.proofs.marks.mark_region.Goals as goal

pub loop-i-init : goal.loop-i-init
loop-i-init c =
    let a = c.args in
    λ q m g h. marking_start a.w.now q a.lay.slots a.lay.points a.k a.b m g h

pub mark_cell-requires : goal.mark_cell-requires
mark_cell-requires c =
    let x = c.loop-i in
    let a = c.args in
    let r = c.requires.in_hand in
    let q = r.0 in
    let m = r.1 in
    let g = r.2 in
    let h = r.3 in
    let b = x.invariant q m g h in
    let y = scan_here a.w.now a.lay.slots a.lay.points a.k x.i c.wide-j.result m b.rest h.rep b.scan c.loop-i-test.true
    (marking_word a.w.now q a.lay.slots a.lay.points a.k a.b m g h x.w x.i b c.requires.can_mark.from c.loop-i-test.true c.wide-j.result (c.wide-j.ensures ∙ ap (λ (z : ℕ). get_or x.w (z + x.i) 0) c.list_at.ensures)) in
    record { can_mark = can_kept a.w.now x.w a.lay.slots a.lay.points a.b x.auto.w c.requires.can_mark; rep = (m, marking_rep a.w.now q a.lay.slots a.lay.points a.k a.b m g h x.w x.i b c.requires.can_mark.from, y.top.t); i_lt_s = y.inside }

pub loop-i-preserved : goal.loop-i-preserved
loop-i-preserved c =
    let x = c.loop-i in
    let a = c.args in
    λ q m g h.
    let b = x.invariant q m g h in
    let y = scan_here a.w.now a.lay.slots a.lay.points a.k x.i c.wide-j.result m b.rest h.rep b.scan c.loop-i-test.true
    (marking_word a.w.now q a.lay.slots a.lay.points a.k a.b m g h x.w x.i b c.requires.can_mark.from c.loop-i-test.true c.wide-j.result (c.wide-j.ensures ∙ ap (λ (z : ℕ). get_or x.w (z + x.i) 0) c.list_at.ensures)) in
    marking_more a.w.now q a.lay.slots a.lay.points a.k a.b m g h x.w x.i b c.mark_cell.new.w c.wide-j.result y
    (c.mark_cell.ensures m (marking_rep a.w.now q a.lay.slots a.lay.points a.k a.b m g h x.w x.i b c.requires.can_mark.from) y.top.t)

pub returns : goal.returns
returns c =
    let x = c.loop-i in
    let a = c.args in
    λ q m g h. marking_end a.w.now q a.lay.slots a.lay.points a.k a.b m g h x.w x.i (x.invariant q m g h) c.loop-i-test.false
