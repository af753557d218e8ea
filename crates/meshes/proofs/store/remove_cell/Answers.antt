-- What was noted of the components is forgotten, then the cell is taken out.
use Rattle.std.specs.Prelude.{◌≤◌}
use Rattle.laws.specs.Kit.{◌∙◌, arith}
use Rattle.laws.specs.Frames.{keeps_trans}
use Rattle.cells.specs.Layout.{mesh_end}
use Rattle.meshes.proofs.Evens.{forgotten_rep, forgotten_none, forgotten_keeps, forgotten_length}
use Rattle.meshes.proofs.store.remove_cell.Goals as goal

pub forget_even-requires : goal.forget_even-requires
forget_even-requires c =
    record { room = c.requires.rep.1.room; le_s = omega (arith, c.requires.i_lt_s) }

pub take_out-requires : goal.take_out-requires
take_out-requires c =
    let a = c.args in
    let g = c.forget_even in
    let one : 1 ≤ a.lay.slots = omega (arith, c.requires.i_lt_s) in
    record { rep = (c.requires.rep.0, forgotten_rep a.w.now g.new.w a.lay.slots a.lay.points one g.ensures c.requires.rep.0 c.requires.rep.1); i_lt_s = c.requires.i_lt_s; uneven = forgotten_none a.w.now g.new.w a.lay.slots a.lay.points one g.ensures c.requires.rep.1.room }

pub shape_of-w : goal.shape_of-w
shape_of-w c =
    let a = c.args in
    let g = c.forget_even in
    c.take_out.ensures.keeps.len ∙ forgotten_length a.w.now g.new.w a.lay.slots a.lay.points (omega (arith, c.requires.i_lt_s)) g.ensures

pub returns : goal.returns
returns c =
    let a = c.args in
    let g = c.forget_even in
    let q = c.take_out.ensures in
    let one : 1 ≤ a.lay.slots = omega (arith, c.requires.i_lt_s) in
    record {
      rep = λ m r y. q.rep m (forgotten_rep a.w.now g.new.w a.lay.slots a.lay.points one g.ensures m r) y;
      keeps = keeps_trans a.w.now g.new.w c.take_out.new.w (mesh_end a.lay.slots a.lay.points) (forgotten_keeps a.w.now g.new.w a.lay.slots a.lay.points one g.ensures) q.keeps;
    }
