-- The walk, then the note.
use Rattle.front_edges.proofs.Noting.{can_note, walked}
use Rattle.front_edges.proofs.walk_and_note.Goals as goal

pub note_edges-requires : goal.note_edges-requires
note_edges-requires c =
    let a = c.args in
    let h = c.requires.1 in
    (c.requires.0, can_note a.w.now c.front_at-r.new.w a.lay.slots a.lay.points a.u a.from c.front_at-r.result c.requires.0 h (c.front_at-r.ensures c.requires.0 h.walk))

pub returns : goal.returns
returns c = λ m h.
    let a = c.args in
    let g = c.front_at-r.ensures m h.walk in
    walked a.w.now c.front_at-r.new.w a.lay.slots a.lay.points a.u a.from c.front_at-r.result m h g c.note_edges.new.w
    (c.note_edges.ensures m (can_note a.w.now c.front_at-r.new.w a.lay.slots a.lay.points a.u a.from c.front_at-r.result m h g))
