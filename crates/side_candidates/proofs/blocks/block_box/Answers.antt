use mathlib.Core.Path.{◌≡◌, ap, ◌∙◌, subst}
use Prim.Native.Nat.{ℕ, ◌+◌, ◌*◌, ◌<◌}
use native.Mathlib.Omega.{arith}
use lib.ListN.{get_or}
use Rattle.definition.specs.Cells.{tri, new_live}
use Rattle.cells.specs.Rep.{TriIn}
use Rattle.live_regions.specs.Walls.{wall_mark}
use Rattle.side_candidates.specs.Blocks.{slot_at, Framed}
use Rattle.side_candidates.proofs.Boxing.{framed_also}
use Rattle.side_candidates.proofs.Skipping.{slot_read, spot_to, mark_told, framed_more}
use Rattle.side_candidates.proofs.blocks.block_box.Goals as goal
use Rattle.side_candidates.proofs.blocks.block_box.Goals.{After-wide-c}

-- the cell's slot, as it is read
read : (c : After-wide-c) → c.wide-c.result ≡ get_or c.args.w.now (21 * c.args.lay.slots + 3 * c.args.lay.points + c.loop-i.i) 0
read c = c.wide-c.ensures ∙ ap (λ (z : ℕ). get_or c.args.w.now (z + c.loop-i.i) 0) c.list_at-list.ensures

inside : (c : After-wide-c) → c.wide-c.result < c.args.lay.slots
inside c =
    let a = c.args in
    let r = c.requires.in_hand in
    (spot_to a.w.now a.q.now a.lay.slots a.lay.points a.n r.0 r.1 r.2 c.loop-i.i c.wide-c.result (omega (arith, c.requires.j_le_k.1)) (read c)).inside

pub bounds-w-marks : goal.bounds-w-marks
bounds-w-marks c = omega (arith, c.marks_at-marks.ensures, inside (goal.at.bounds-w-marks c).After-wide-c, c.requires.in_hand.2.rep.room.fits)

pub with_cell-b-requires : goal.with_cell-b-requires
with_cell-b-requires c =
    let a = c.args in
    let r = c.requires.in_hand in
    record {
      rep = (r.0, r.2.rep, r.2.pts, (spot_to a.w.now a.q.now a.lay.slots a.lay.points a.n r.0 r.1 r.2 c.loop-i.i c.wide-c.result (omega (arith, c.requires.j_le_k.1)) (read (goal.at.with_cell-b-requires c).After-wide-c)).top.t);
      i_lt_s = inside (goal.at.with_cell-b-requires c).After-wide-c;
    }

pub loop-i-preserved : goal.loop-i-preserved
loop-i-preserved c =
    let a = c.args in
    let i = c.loop-i.i in
    let b = c.loop-i.b in
    let v = c.wide-c.result in
    let r = c.with_cell-b.result in
    λ m g h.
    let l : i < a.n = omega (arith, c.requires.j_le_k.1) in
    let x : v ≡ get_or a.w.now (21 * a.lay.slots + 3 * a.lay.points + i) 0 = c.wide-c.ensures ∙ ap (λ (z : ℕ). get_or a.w.now (z + i) 0) c.list_at-list.ensures in
    let e : (t : TriIn m v) → get_or a.w.now (c.marks_at-marks.result + v) 0 ≡ wall_mark m (new_live v (tri t.t)) =
    λ t. ap (λ (z : ℕ). get_or a.w.now (z + v) 0) c.marks_at-marks.ensures ∙ mark_told a.w.now a.q.now a.lay.slots a.lay.points a.n m g h i v l x t in
    let s : v ≡ slot_at g i = x ∙ slot_read a.w.now a.q.now a.lay.slots a.lay.points a.n m g h i l in
    let u : TriIn m v = (spot_to a.w.now a.q.now a.lay.slots a.lay.points a.n m g h i v l x).top.t in
    let f : (t : TriIn m v) → Framed m r t.t = λ t. (c.with_cell-b.ensures m h.rep h.pts t (e t)).walls in
    framed_more m b r g a.j i (λ t z. framed_also m b r t (c.with_cell-b.ensures m h.rep h.pts u (e u)).keeps z)
    (subst (λ (y : ℕ). (t : TriIn m y) → Framed m r t.t) s f) (c.loop-i.invariant m g h)

pub returns : goal.returns
returns c = λ m g h i u v. c.loop-i.invariant m g h i u (omega (arith, v, c.loop-i-test.false))
