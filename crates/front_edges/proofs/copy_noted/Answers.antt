-- No edge, one or two.
use Rattle.front_edges.proofs.Copies.{copied_none, can_first, copied_one, can_second, copied_two}
use Rattle.front_edges.proofs.copy_noted.Goals as goal

pub returns-then-x-eq1 : goal.returns-then-x-eq1
returns-then-x-eq1 c = λ m h. let a = c.args in copied_none a.w.now a.lay.slots a.lay.points a.u a.from a.x m h c.if-x-eq1.true

pub copy_edge-requires : goal.copy_edge-requires
copy_edge-requires c =
    let a = c.args in
    can_first a.w.now a.lay.slots a.lay.points a.u a.from a.x c.requires.0 c.requires.1 c.if-x-eq1.false

pub returns-then-x-eq2 : goal.returns-then-x-eq2
returns-then-x-eq2 c = λ m h.
    let a = c.args in
    copied_one a.w.now a.lay.slots a.lay.points a.u a.from a.x m h c.copy_edge.new.w c.copy_edge.ensures c.if-x-eq2.true

pub copy_edge-requires-2 : goal.copy_edge-requires-2
copy_edge-requires-2 c =
    let a = c.args in
    can_second a.w.now a.lay.slots a.lay.points a.u a.from a.x c.requires.0 c.requires.1 c.copy_edge.new.w c.copy_edge.ensures c.if-x-eq1.false c.if-x-eq2.false

pub returns : goal.returns
returns c = λ m h.
    let a = c.args in
    copied_two a.w.now a.lay.slots a.lay.points a.u a.from a.x m h c.copy_edge.new.w c.copy_edge.ensures c.if-x-eq1.false c.if-x-eq2.false c.copy_edge-2.new.w c.copy_edge-2.ensures
