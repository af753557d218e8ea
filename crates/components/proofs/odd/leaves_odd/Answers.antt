-- By the number of those left, by the note, or by floods.
use Rattle.laws.specs.Kit.{arith}
use Rattle.cells.proofs.Frames.{even_noted}
use Rattle.components.proofs.Odds.{listed_slot}
use Rattle.components.proofs.Totals.{listed_few, odd_rest, even_listed}
use Rattle.components.proofs.odd.leaves_odd.Goals as goal

pub overflow_sub-live : goal.overflow_sub-live
overflow_sub-live c =
    let a = c.args in
    omega (arith, listed_few a.w.now a.lay.slots a.lay.points a.n c.requires.0 c.requires.1 c.requires.2, c.requires.4)

pub returns-then-live-n-ne0 : goal.returns-then-live-n-ne0
returns-then-live-n-ne0 c =
    let a = c.args in
    λ m xs h u l. odd_rest a.w.now a.lay.slots a.lay.points a.n m xs h a.live l c.if-live-n-ne0.true

pub is_even-requires : goal.is_even-requires
is_even-requires c =
    let h = c.requires.2 in
    record { room = h.rep.room; le_s = listed_slot h }

-- it is noted that none is odd
pub leaves_odd_near-requires : goal.leaves_odd_near-requires
leaves_odd_near-requires c =
    let e = c.is_even in
    let a = c.args in
    let h = c.requires.2 in
    let one = listed_slot h in
    let none = even_noted a.w.now a.lay.slots a.lay.points c.requires.0 e.result one e.ensures c.if-is_even.true h.rep in
    record { listed = (c.requires.0, c.requires.1, h, none, c.requires.3); n_value = even_listed a.w.now a.lay.slots a.lay.points a.n c.requires.0 c.requires.1 h a.live c.requires.4 c.if-live-n-ne0.false none }

pub returns-then-is_even : goal.returns-then-is_even
returns-then-is_even c =
    let e = c.is_even in
    let a = c.args in
    λ m xs h u l.
    c.leaves_odd_near.ensures m xs h (even_noted a.w.now a.lay.slots a.lay.points m e.result (listed_slot h) e.ensures c.if-is_even.true h.rep) u

pub returns : goal.returns
returns c = λ m xs h u l. c.leaves_odd_anywhere.ensures m xs h u
