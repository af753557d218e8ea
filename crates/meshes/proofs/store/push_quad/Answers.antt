-- What was noted of the components is forgotten; a push puts the cell into the next slot.
use Rattle.std.specs.Prelude.{◌≤◌}
use Rattle.laws.specs.Kit.{◌∙◌, ℕ, suc, arith}
use Rattle.laws.specs.Frames.{keeps_trans}
use Rattle.cells.specs.Layout.{mesh_end}
use Rattle.definition.specs.Plane.{Edge}
use Rattle.definition.specs.Cells.{Mesh, quad, nodes, quad_nodes, new_quad}
use Rattle.meshes.specs.Changes.{CanPush, quad_of_nodes, born_of_nodes}
use Rattle.meshes.proofs.Evens.{forgotten_rep, forgotten_none, forgotten_keeps, forgotten_length}
use Rattle.meshes.proofs.Puts.{push_put, push_is}
use Rattle.meshes.proofs.store.push_quad.Goals as goal

-- the birth is no part of the shape
same_push : (m : Mesh) (s i a b c d : ℕ) (e : Edge) (round gone : ℕ) → CanPush m s i (quad_of_nodes a b c d) → CanPush m s i (quad (born_of_nodes e round gone a b c d))
unfolding nodes quad_nodes new_quad
same_push m s i a b c d e round gone o = record { next = o.next; free = o.free; shape = record { distinct = o.shape.distinct; known = o.shape.known } }

pub forget_even-requires : goal.forget_even-requires
forget_even-requires c =
    record { room = c.requires.1.room; le_s = omega (arith, c.requires.2.free) }

pub put_quad-requires : goal.put_quad-requires
put_quad-requires c =
    let a = c.args in
    let cell = quad_of_nodes a.a a.b a.c a.d in
    let g = c.forget_even in
    let one : 1 ≤ a.lay.slots = omega (arith, c.requires.2.free) in
    let r = forgotten_rep a.w.now g.new.w a.lay.slots a.lay.points one g.ensures c.requires.0 c.requires.1 in
    record { by_index = (c.requires.0, suc a.i, r, push_put g.new.w a.lay.slots a.lay.points a.i c.requires.0 cell r c.requires.2); uneven = forgotten_none a.w.now g.new.w a.lay.slots a.lay.points one g.ensures c.requires.1.room }

pub shape_of-w : goal.shape_of-w
shape_of-w c =
    let a = c.args in
    let g = c.forget_even in
    (c.put_quad.ensures (0, 0) 0 0).keeps.len ∙ forgotten_length a.w.now g.new.w a.lay.slots a.lay.points (omega (arith, c.requires.2.free)) g.ensures

pub returns : goal.returns
returns c e₀ round gone =
    let a = c.args in
    let cell = quad (born_of_nodes e₀ round gone a.a a.b a.c a.d) in
    let g = c.forget_even in
    let q = c.put_quad.ensures e₀ round gone in
    let one : 1 ≤ a.lay.slots = omega (arith, c.requires.2.free) in
    record {
      rep = λ m r o₀.
          let o = same_push m a.lay.slots a.i a.a a.b a.c a.d e₀ round gone o₀ in
          let z = forgotten_rep a.w.now g.new.w a.lay.slots a.lay.points one g.ensures m r in
          push_is a.lay.slots a.lay.points a.i m cell _ o (q.rep m (suc a.i) z (push_put g.new.w a.lay.slots a.lay.points a.i m cell z o));
      keeps = keeps_trans a.w.now g.new.w c.put_quad.new.w (mesh_end a.lay.slots a.lay.points) (forgotten_keeps a.w.now g.new.w a.lay.slots a.lay.points one g.ensures) q.keeps;
    }
