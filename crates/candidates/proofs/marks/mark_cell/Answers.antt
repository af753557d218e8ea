use mathlib.Core.Path.{◌∙◌}
use mathlib.Core.Bool.{◌||◌}
use native.Mathlib.Omega.{arith}
use lib.Dec.{eqb}
use Rattle.definition.specs.Cells.{tri_has}
use Rattle.live_regions.proofs.Steps.{corners_of}
use Rattle.candidates.proofs.Words.{spare_kept, put_trans, put_same, tri_is}
use Rattle.candidates.proofs.marks.mark_cell.Goals as goal

pub put-requires : goal.put-requires
put-requires c =
    let a = c.args in
    let d = corners_of a.w.now a.lay.slots a.lay.points a.i c.requires.rep.0 c.requires.rep.1 c.requires.rep.2 in
    record { spare = c.requires.can_mark.spare; v_lt_p = omega (arith, c.node-x.ensures ∙ d.read.n0, d.k0, c.requires.rep.1.points) }

pub put-requires-2 : goal.put-requires-2
put-requires-2 c =
    let a = c.args in
    let d = corners_of a.w.now a.lay.slots a.lay.points a.i c.requires.rep.0 c.requires.rep.1 c.requires.rep.2 in
    record { spare = spare_kept a.w.now c.put.new.w a.lay.points a.b c.put.auto.w c.requires.can_mark.spare; v_lt_p = omega (arith, c.node-y.ensures ∙ d.read.n1, d.k1, c.requires.rep.1.points) }

pub put-requires-3 : goal.put-requires-3
put-requires-3 c =
    let a = c.args in
    let d = corners_of a.w.now a.lay.slots a.lay.points a.i c.requires.rep.0 c.requires.rep.1 c.requires.rep.2 in
    record { spare = spare_kept a.w.now c.put-2.new.w a.lay.points a.b (c.put-2.auto.w ∙ c.put.auto.w) c.requires.can_mark.spare; v_lt_p = omega (arith, c.node-z.ensures ∙ d.read.n2, d.k2, c.requires.rep.1.points) }

pub shape_of-w : goal.shape_of-w
shape_of-w c =
    c.put-3.auto.w ∙ c.put-2.auto.w ∙ c.put.auto.w

pub returns : goal.returns
returns c =
    let a = c.args in
    let w = a.w.now in
    let x = c.node-x.result in
    let y = c.node-y.result in
    let z = c.node-z.result in
    let w1 = c.put.new.w in
    let w2 = c.put-2.new.w in
    let w3 = c.put-3.new.w in
    λ m r k.
    let d = corners_of w a.lay.slots a.lay.points a.i m r k in
    put_same w w3 a.lay.points a.b (λ v. (eqb x v || eqb y v) || eqb z v) (tri_has k.t)
    (λ v. tri_is k.t x y z v (c.node-x.ensures ∙ d.read.n0) (c.node-y.ensures ∙ d.read.n1) (c.node-z.ensures ∙ d.read.n2))
    (put_trans w w2 w3 a.lay.points a.b (λ v. eqb x v || eqb y v) (eqb z) (put_trans w w1 w2 a.lay.points a.b (eqb x) (eqb y) c.put.ensures c.put-2.ensures) c.put-3.ensures)
