use Rattle.live_regions.proofs.Notes.{first_inside, second_inside, note_first, note_second}
use Rattle.live_regions.proofs.stack.note_other.Goals as goal

pub note_edge-requires : goal.note_edge-requires
note_edge-requires c =
    let a = c.args in
    let m = c.requires.0 in
    let out = c.requires.1 in
    let seen = c.requires.2 in
    let st = c.requires.3 in
    let h = c.requires.4 in
    record { can_note = (m, out, seen, st, note_first a.w.now a.lay.slots a.lay.points a.i a.a a.b a.u a.v m out seen st h c.if-b-i.true); j_lt_s = first_inside a.w.now a.lay.slots a.lay.points a.i a.a a.b a.u a.v m out seen st h }

pub returns-then-b-i : goal.returns-then-b-i
returns-then-b-i c =
    let a = c.args in
    λ m out seen st h. c.note_edge.ensures m out seen st (note_first a.w.now a.lay.slots a.lay.points a.i a.a a.b a.u a.v m out seen st h c.if-b-i.true)

pub note_edge-requires-2 : goal.note_edge-requires-2
note_edge-requires-2 c =
    let a = c.args in
    let m = c.requires.0 in
    let out = c.requires.1 in
    let seen = c.requires.2 in
    let st = c.requires.3 in
    let h = c.requires.4 in
    record { can_note = (m, out, seen, st, note_second a.w.now a.lay.slots a.lay.points a.i a.a a.b a.u a.v m out seen st h c.if-b-i.false); j_lt_s = second_inside a.w.now a.lay.slots a.lay.points a.i a.a a.b a.u a.v m out seen st h }

pub returns : goal.returns
returns c =
    let a = c.args in
    λ m out seen st h. c.note_edge-2.ensures m out seen st (note_second a.w.now a.lay.slots a.lay.points a.i a.a a.b a.u a.v m out seen st h c.if-b-i.false)
