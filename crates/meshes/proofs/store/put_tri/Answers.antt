-- The kind is stored, then node after node is placed.
use Rattle.std.specs.Prelude.{◌∷◌}
use Rattle.laws.specs.Kit.{refl, ◌∙◌, arith, [], set, length-set}
use Rattle.definition.specs.Cells.{nodes, tri_nodes, new_tri}
use Rattle.laws.specs.Frames.{keeps_trans, keeps_more, keeps_set}
use Rattle.cells.specs.Layout.{fronts_at, mesh_end}
use Rattle.meshes.specs.Changes.{tri_of_nodes}
use Rattle.meshes.proofs.Puts.{put_start, put_done, known_at}
use Rattle.meshes.proofs.store.put_tri.Goals as goal

pub place-requires : goal.place-requires
unfolding nodes tri_nodes new_tri
place-requires c =
    let a = c.args in
    let m = c.requires.by_index.0 in
    let n = c.requires.by_index.1 in
    let r = c.requires.by_index.2 in
    let o = c.requires.by_index.3 in
    let cell = tri_of_nodes a.a a.b a.c in
    let f0 = put_start a.w.now a.lay.slots a.lay.points a.i n m cell r o 3 in
    record { n = 3; m = m; ns = []; is = f0; many = refl; few = omega arith; node = known_at r o 0 (omega arith) }

pub place-requires-2 : goal.place-requires-2
unfolding nodes tri_nodes new_tri
place-requires-2 c =
    let a = c.args in
    let m = c.requires.by_index.0 in
    let n = c.requires.by_index.1 in
    let r = c.requires.by_index.2 in
    let o = c.requires.by_index.3 in
    let cell = tri_of_nodes a.a a.b a.c in
    let f0 = put_start a.w.now a.lay.slots a.lay.points a.i n m cell r o 3 in
    let f1 = c.place.ensures.is 3 m [] f0 refl in
    record { n = 3; m = m; ns = a.a ∷ []; is = f1; many = refl; few = omega arith; node = known_at r o 1 (omega arith) }

pub place-requires-3 : goal.place-requires-3
unfolding nodes tri_nodes new_tri
place-requires-3 c =
    let a = c.args in
    let m = c.requires.by_index.0 in
    let n = c.requires.by_index.1 in
    let r = c.requires.by_index.2 in
    let o = c.requires.by_index.3 in
    let cell = tri_of_nodes a.a a.b a.c in
    let f0 = put_start a.w.now a.lay.slots a.lay.points a.i n m cell r o 3 in
    let f1 = c.place.ensures.is 3 m [] f0 refl in
    let f2 = c.place-2.ensures.is 3 m (a.a ∷ []) f1 refl in
    record { n = 3; m = m; ns = a.a ∷ a.b ∷ []; is = f2; many = refl; few = omega arith; node = known_at r o 2 (omega arith) }

pub shape_of-w : goal.shape_of-w
shape_of-w c =
    c.place-3.ensures.keeps.len ∙ c.place-2.ensures.keeps.len ∙ c.place.ensures.keeps.len ∙ simp length-set

pub returns : goal.returns
unfolding nodes tri_nodes new_tri
returns c =
    let a = c.args in
    let cell = tri_of_nodes a.a a.b a.c in
    let e = fronts_at a.lay.slots a.lay.points in
    let k = keeps_trans a.w.now c.place-2.new.w c.place-3.new.w e (keeps_trans a.w.now c.place.new.w c.place-2.new.w e (keeps_trans a.w.now (set a.w.now a.i 3) c.place.new.w e (keeps_set a.w.now e a.i 3 (omega (arith, c.requires.by_index.3.given, c.requires.by_index.3.fits))) c.place.ensures.keeps) c.place-2.ensures.keeps) c.place-3.ensures.keeps in
    record {
      rep = λ m n r o.
          let f0 = put_start a.w.now a.lay.slots a.lay.points a.i n m cell r o 3 in
          let f1 = c.place.ensures.is 3 m [] f0 refl in
          let f2 = c.place-2.ensures.is 3 m (a.a ∷ []) f1 refl in
          let f3 = c.place-3.ensures.is 3 m (a.a ∷ a.b ∷ []) f2 refl in
          put_done a.w.now a.lay.slots a.lay.points a.i n m cell r o c.place-3.new.w c.requires.uneven k f3;
      keeps = keeps_more a.w.now c.place-3.new.w e (mesh_end a.lay.slots a.lay.points) (omega arith) k;
    }
