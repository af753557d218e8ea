use Rattle.definition.specs.Cells.{set_cell}
use Rattle.laws.specs.Frames.{keeps_trans}
use Rattle.cells.specs.Layout.{mesh_end}
use Rattle.meshes.specs.Changes.{tri_of_nodes}
use Rattle.flips.specs.Nodes.{tri_read}
use Rattle.flips.proofs.Flips.{can_xuy, can_xyu, can_yvx, can_yxv, turned_along, turned_back}
use borrow.Author.Rules.{rules}
use Rattle.flips.proofs.flip.turn.Goals as goal

pub set_tri-requires : goal.set_tri-requires
set_tri-requires c =
    let a = c.args in
    (c.requires.0, c.requires.1, can_xuy c.requires.0 a.u a.v a.i a.j a.x a.y c.requires.2)

pub set_tri-requires-then-runs : goal.set_tri-requires-then-runs
set_tri-requires-then-runs c =
    let a = c.args in
    let m = c.requires.0 in
    (set_cell m a.i (tri_of_nodes a.x a.u a.y), c.set_tri.ensures.rep m c.requires.1 (can_xuy m a.u a.v a.i a.j a.x a.y c.requires.2), can_yvx m a.u a.v a.i a.j a.x a.y c.requires.2)

pub returns-then-runs : goal.returns-then-runs
returns-then-runs c =
    let a = c.args in
    record {
      rep = λ m r k.
          turned_along c.set_tri-then-runs.new.w a.lay.slots a.lay.points m a.u a.v a.i a.j a.x a.y (tri_read a.w.now a.lay.slots a.i) c.runs.result c.runs.ensures c.if-runs.true
          (c.set_tri-then-runs.ensures.rep (set_cell m a.i (tri_of_nodes a.x a.u a.y)) (c.set_tri.ensures.rep m r (can_xuy m a.u a.v a.i a.j a.x a.y k)) (can_yvx m a.u a.v a.i a.j a.x a.y k));
      keeps = keeps_trans a.w.now c.set_tri.new.w c.set_tri-then-runs.new.w (mesh_end a.lay.slots a.lay.points) c.set_tri.ensures.keeps c.set_tri-then-runs.ensures.keeps;
    }

pub set_tri-requires-2 : goal.set_tri-requires-2
set_tri-requires-2 c =
    let a = c.args in
    (c.requires.0, c.requires.1, can_xyu c.requires.0 a.u a.v a.i a.j a.x a.y c.requires.2)

pub set_tri-requires-3 : goal.set_tri-requires-3
set_tri-requires-3 c =
    let a = c.args in
    let m = c.requires.0 in
    (set_cell m a.i (tri_of_nodes a.x a.y a.u), c.set_tri-2.ensures.rep m c.requires.1 (can_xyu m a.u a.v a.i a.j a.x a.y c.requires.2), can_yxv m a.u a.v a.i a.j a.x a.y c.requires.2)

pub returns : goal.returns
returns c =
    let a = c.args in
    record {
      rep = λ m r k.
          turned_back c.set_tri-3.new.w a.lay.slots a.lay.points m a.u a.v a.i a.j a.x a.y (tri_read a.w.now a.lay.slots a.i) c.runs.result c.runs.ensures c.if-runs.false
          (c.set_tri-3.ensures.rep (set_cell m a.i (tri_of_nodes a.x a.y a.u)) (c.set_tri-2.ensures.rep m r (can_xyu m a.u a.v a.i a.j a.x a.y k)) (can_yxv m a.u a.v a.i a.j a.x a.y k));
      keeps = keeps_trans a.w.now c.set_tri-2.new.w c.set_tri-3.new.w (mesh_end a.lay.slots a.lay.points) c.set_tri-2.ensures.keeps c.set_tri-3.ensures.keeps;
    }
