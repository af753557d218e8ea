-- As many edges as the places tell.
use Rattle.std.specs.Prelude.{◌+◌, ◌∷◌}
use Rattle.laws.specs.Kit.{refl, arith, [], get_or}
use Rattle.cells.specs.Layout.{front_v_at}
use Rattle.front_edges.proofs.Noting.{note_left, note_done, none_is, one_is, two_is}
use Rattle.front_edges.proofs.note_edges.Goals as goal

pub returns-then-r-from : goal.returns-then-r-from
returns-then-r-from c = λ m h.
    let a = c.args in
    note_done a.w.now c.note_none.new.w a.lay.slots a.lay.points a.u a.from a.r m h [] (none_is a.w.now a.lay.slots a.lay.points a.u a.from a.r h.vs h.run c.if-r-from.true) (omega arith)
    (λ d. absurd (d refl)) c.note_none.ensures

pub returns-then-u-lay : goal.returns-then-u-lay
returns-then-u-lay c = λ m h. let a = c.args in note_left a.w.now a.lay.slots a.lay.points a.u a.from a.r m h

pub returns-then-r-from-2 : goal.returns-then-r-from-2
returns-then-r-from-2 c = λ m h.
    let a = c.args in
    let v = front_v_at a.lay.slots a.lay.points + a.from in
    note_done a.w.now c.note_one.new.w a.lay.slots a.lay.points a.u a.from a.r m h (get_or a.w.now v 0 ∷ [])
    (one_is a.w.now a.lay.slots a.lay.points a.u a.from a.r h.vs h.run c.if-r-from-2.true) (omega arith) (λ d. omega (arith, c.if-u-lay.false)) c.note_one.ensures

pub returns-then-r-from-3 : goal.returns-then-r-from-3
returns-then-r-from-3 c = λ m h.
    let a = c.args in
    let v = front_v_at a.lay.slots a.lay.points + a.from in
    note_done a.w.now c.note_two.new.w a.lay.slots a.lay.points a.u a.from a.r m h (get_or a.w.now v 0 ∷ get_or a.w.now (v + 1) 0 ∷ [])
    (two_is a.w.now a.lay.slots a.lay.points a.u a.from a.r h.vs h.run c.if-r-from-3.true) (omega arith) (λ d. omega (arith, c.if-u-lay.false)) c.note_two.ensures

pub returns-else-r-from-3 : goal.returns-else-r-from-3
returns-else-r-from-3 c = λ m h. let a = c.args in note_left a.w.now a.lay.slots a.lay.points a.u a.from a.r m h
