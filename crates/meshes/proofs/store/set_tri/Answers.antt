-- The old cell goes, then the new one is put into its slot.
use Rattle.std.specs.Prelude.{◌≤◌}
use Rattle.laws.specs.Kit.{◌∙◌, arith}
use Rattle.definition.specs.Cells.{remove_cell}
use Rattle.laws.specs.Frames.{keeps_trans}
use Rattle.cells.specs.Layout.{mesh_end}
use Rattle.meshes.specs.Changes.{tri_of_nodes}
use Rattle.meshes.proofs.Evens.{forgotten_rep, forgotten_none, forgotten_keeps, forgotten_length}
use Rattle.meshes.proofs.Removes.{set_put, set_is}
use Rattle.meshes.proofs.store.set_tri.Goals as goal

pub remove_cell-requires : goal.remove_cell-requires
remove_cell-requires c =
    let a = c.args in
    record { rep = (c.requires.0, c.requires.1); i_lt_s = omega (arith, c.requires.1.used, c.requires.2.given) }

pub forget_even-requires : goal.forget_even-requires
forget_even-requires c =
    let g = c.remove_cell.ensures in
    record { room = (g.rep c.requires.0 c.requires.1 tt).room; le_s = omega (arith, c.requires.1.used, c.requires.2.given) }

pub put_tri-requires : goal.put_tri-requires
put_tri-requires c =
    let a = c.args in
    let cell = tri_of_nodes a.a a.b a.c in
    let b = c.remove_cell in
    let g = c.forget_even in
    let m = c.requires.0 in
    let one : 1 ≤ a.lay.slots = omega (arith, c.requires.1.used, c.requires.2.given) in
    let r = b.ensures.rep m c.requires.1 tt in
    record { by_index = (remove_cell m a.i, m.used, forgotten_rep b.new.w g.new.w a.lay.slots a.lay.points one g.ensures (remove_cell m a.i) r, set_put a.lay.slots a.i m cell c.requires.1.used c.requires.2); uneven = forgotten_none b.new.w g.new.w a.lay.slots a.lay.points one g.ensures r.room }

pub shape_of-w : goal.shape_of-w
shape_of-w c =
    let a = c.args in
    let b = c.remove_cell in
    let g = c.forget_even in
    c.put_tri.ensures.keeps.len ∙ forgotten_length b.new.w g.new.w a.lay.slots a.lay.points (omega (arith, c.requires.1.used, c.requires.2.given)) g.ensures ∙ b.ensures.keeps.len

pub returns : goal.returns
returns c =
    let a = c.args in
    let cell = tri_of_nodes a.a a.b a.c in
    let b = c.remove_cell in
    let g = c.forget_even in
    let q = c.put_tri.ensures in
    let one : 1 ≤ a.lay.slots = omega (arith, c.requires.1.used, c.requires.2.given) in
    let e = mesh_end a.lay.slots a.lay.points in
    record {
      rep = λ m r o. set_is a.lay.slots a.i m cell _ a.lay.points (q.rep (remove_cell m a.i) m.used (forgotten_rep b.new.w g.new.w a.lay.slots a.lay.points one g.ensures (remove_cell m a.i) (b.ensures.rep m r tt)) (set_put a.lay.slots a.i m cell r.used o));
      keeps = keeps_trans a.w.now g.new.w _ e (keeps_trans a.w.now b.new.w g.new.w e b.ensures.keeps (forgotten_keeps b.new.w g.new.w a.lay.slots a.lay.points one g.ensures)) q.keeps;
    }
