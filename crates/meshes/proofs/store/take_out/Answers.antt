-- The loop's invariant: the first k corners of the slot were taken out of their rings,
-- and nothing is noted of their nodes.
-- The measure is how many are left.
use Rattle.std.specs.Prelude.{◌≡◌}
use Rattle.laws.specs.Kit.{arith, get_or, set, length-set}
use Rattle.laws.specs.Frames.{keeps_refl, keeps_trans, keeps_more, keeps_set}
use Rattle.cells.specs.Layout.{rings_at, codes, fronts_at, mesh_end}
use Rattle.meshes.proofs.Removes.{lift_start, lift_can_forget, lift_can, lift_more, lift_done, kind_most}
use Rattle.cells.proofs.Frames.{keeps_kept}
use Rattle.meshes.proofs.store.take_out.Goals as goal

pub loop-k-init : goal.loop-k-init
loop-k-init c =
    let a = c.args in
    (omega arith, keeps_refl a.w.now (fronts_at a.lay.slots a.lay.points), λ m r. lift_start a.w.now a.lay.slots a.lay.points a.i m r c.requires.i_lt_s)

pub overflow_mul-i : goal.overflow_mul-i
overflow_mul-i c =
    let a = c.args in
    let x = c.loop-k in
    let q = kind_most a.w.now a.lay.slots a.lay.points a.i c.requires.rep.0 c.requires.rep.1 c.requires.i_lt_s in
    omega (arith, x.invariant.1.len, c.requires.rep.1.room.fits, c.requires.i_lt_s, c.wide-n.ensures, c.loop-k-test.true)

pub overflow_add-lay : goal.overflow_add-lay
overflow_add-lay c =
    let a = c.args in
    let x = c.loop-k in
    let q = kind_most a.w.now a.lay.slots a.lay.points a.i c.requires.rep.0 c.requires.rep.1 c.requires.i_lt_s in
    omega (arith, x.invariant.1.len, c.requires.rep.1.room.fits, c.requires.i_lt_s, c.wide-n.ensures, c.loop-k-test.true)

pub overflow_add-lay-in-loop-k : goal.overflow_add-lay-in-loop-k
overflow_add-lay-in-loop-k c =
    let a = c.args in
    let x = c.loop-k in
    let q = kind_most a.w.now a.lay.slots a.lay.points a.i c.requires.rep.0 c.requires.rep.1 c.requires.i_lt_s in
    omega (arith, x.invariant.1.len, c.requires.rep.1.room.fits, c.requires.i_lt_s, c.wide-n.ensures, c.loop-k-test.true)

pub offset_bounds-w-lay : goal.offset_bounds-w-lay
offset_bounds-w-lay c =
    let a = c.args in
    let x = c.loop-k in
    let q = kind_most a.w.now a.lay.slots a.lay.points a.i c.requires.rep.0 c.requires.rep.1 c.requires.i_lt_s in
    omega (arith, x.invariant.1.len, c.requires.rep.1.room.fits, c.requires.i_lt_s, c.wide-n.ensures, c.loop-k-test.true)

pub bounds-w-lay : goal.bounds-w-lay
bounds-w-lay c =
    let a = c.args in
    let x = c.loop-k in
    let q = kind_most a.w.now a.lay.slots a.lay.points a.i c.requires.rep.0 c.requires.rep.1 c.requires.i_lt_s in
    omega (arith, x.invariant.1.len, c.requires.rep.1.room.fits, c.requires.i_lt_s, c.wide-n.ensures, c.loop-k-test.true)

pub forget-requires : goal.forget-requires
forget-requires c =
    let a = c.args in
    let x = c.loop-k in
    let y = c.wide-a in
    let m = c.requires.rep.0 in
    lift_can_forget a.w.now a.lay.slots a.lay.points a.i m c.requires.rep.1 c.requires.i_lt_s x.w x.k (x.invariant.2 m c.requires.rep.1) (omega (arith, c.wide-n.ensures, c.loop-k-test.true))
    y.result y.ensures

pub overflow_mul-lay : goal.overflow_mul-lay
overflow_mul-lay c =
    omega (arith, c.loop-k.invariant.1.len, c.requires.rep.1.room.fits)

pub overflow_mul-lay-in-loop-k : goal.overflow_mul-lay-in-loop-k
overflow_mul-lay-in-loop-k c =
    omega (arith, c.loop-k.invariant.1.len, c.requires.rep.1.room.fits)

pub overflow_add-lay-in-loop-k-2 : goal.overflow_add-lay-in-loop-k-2
overflow_add-lay-in-loop-k-2 c =
    omega (arith, c.loop-k.invariant.1.len, c.requires.rep.1.room.fits)

pub overflow_mul-i-in-loop-k : goal.overflow_mul-i-in-loop-k
overflow_mul-i-in-loop-k c =
    omega (arith, c.loop-k.invariant.1.len, c.requires.rep.1.room.fits)

pub overflow_add-i : goal.overflow_add-i
overflow_add-i c =
    let a = c.args in
    let q = kind_most a.w.now a.lay.slots a.lay.points a.i c.requires.rep.0 c.requires.rep.1 c.requires.i_lt_s in
    omega (arith, c.requires.rep.1.room.fits, c.wide-n.ensures, c.loop-k-test.true)

pub unlink-requires : goal.unlink-requires
unlink-requires c =
    let a = c.args in
    let x = c.loop-k in
    let y = c.wide-a in
    let g = c.forget in
    let m = c.requires.rep.0 in
    lift_can a.w.now a.lay.slots a.lay.points a.i m c.requires.rep.1 c.requires.i_lt_s x.w x.k (x.invariant.2 m c.requires.rep.1) (omega (arith, c.wide-n.ensures, c.loop-k-test.true))
    g.new.w y.result y.ensures g.ensures

pub loop-k-preserved : goal.loop-k-preserved
loop-k-preserved c =
    let a = c.args in
    let x = c.loop-k in
    let y = c.wide-a in
    let g = c.forget in
    let q = c.unlink in
    let e = fronts_at a.lay.slots a.lay.points in (
      omega (arith, c.loop-k-test.true),
      keeps_trans a.w.now x.w q.new.w e x.invariant.1
          (keeps_trans x.w g.new.w q.new.w e g.ensures.keeps
          (keeps_kept g.new.w q.new.w (rings_at a.lay.slots) (codes a.lay.slots a.lay.points) e (omega arith) q.ensures.kept)),
      λ m r. lift_more a.w.now a.lay.slots a.lay.points a.i m r c.requires.i_lt_s x.w x.k (x.invariant.2 m r) (omega (arith, c.wide-n.ensures, c.loop-k-test.true))
          g.new.w y.result y.ensures g.ensures q.new.w q.ensures,
    )

pub bounds-w-i-2 : goal.bounds-w-i-2
bounds-w-i-2 c =
    omega (arith, c.loop-k.invariant.1.len, c.requires.rep.1.room.fits, c.requires.i_lt_s)

pub shape_of-w : goal.shape_of-w
shape_of-w c = simp length-set c.loop-k.invariant.1.len

pub returns : goal.returns
returns c =
    let a = c.args in
    let x = c.loop-k in
    let n : get_or a.w.now a.i 0 ≡ x.k = omega (arith, c.wide-n.ensures, c.loop-k-test.false, x.invariant.0) in
    let e = mesh_end a.lay.slots a.lay.points in
    record {
      rep = λ m r y. lift_done a.w.now a.lay.slots a.lay.points a.i m r c.requires.i_lt_s x.w x.k c.requires.uneven n x.invariant.1 (x.invariant.2 m r);
      keeps = keeps_trans a.w.now x.w (set x.w a.i 0) e (keeps_more a.w.now x.w (fronts_at a.lay.slots a.lay.points) e (omega arith) x.invariant.1)
          (keeps_set x.w e a.i 0 (omega (arith, c.requires.i_lt_s)));
    }
