-- The slots of the trace one after the other, for each mesh that the memory stands for.
use Rattle.laws.specs.Kit.{arith}
use Rattle.retrace.proofs.Placing.{has_yes, has_no, has_beyond, going_none, going_all, going_no, going_more}
use Rattle.retrace.proofs.quads.take_out.Goals as goal

pub loop-k-init : goal.loop-k-init
loop-k-init c =
    let a = c.args in
    going_none a.work.now a.trace.now a.lay.slots a.lay.points a.from a.n

pub bounds-trace-from : goal.bounds-trace-from
bounds-trace-from c =
    omega (arith, c.requires.n_in_bounds, c.loop-k-test.true)

pub shape_of-work-then-i-lay : goal.shape_of-work-then-i-lay
shape_of-work-then-i-lay c = c.loop-k.invariant.len

pub returns-then-i-lay : goal.returns-then-i-lay
returns-then-i-lay c =
    let a = c.args in
    let x = c.loop-k in
    going_no a.work.now x.work a.trace.now a.lay.slots a.lay.points a.from a.n x.k x.invariant c.requires.n_in_bounds c.loop-k-test.true c.wide-i.result c.wide-i.ensures
    (λ m r. has_beyond x.work a.lay.slots a.lay.points m r c.wide-i.result c.if-i-lay.true)

pub bounds-work-i : goal.bounds-work-i
bounds-work-i c =
    let x = c.loop-k in
    let g = x.invariant.is c.requires.rep.0 c.requires.rep.1 in
    omega (arith, c.if-i-lay.false, g.1.room.fits)

pub shape_of-work-then-work-i-ne3 : goal.shape_of-work-then-work-i-ne3
shape_of-work-then-work-i-ne3 c = c.loop-k.invariant.len

pub returns-then-work-i-ne3 : goal.returns-then-work-i-ne3
returns-then-work-i-ne3 c =
    let a = c.args in
    let x = c.loop-k in
    going_no a.work.now x.work a.trace.now a.lay.slots a.lay.points a.from a.n x.k x.invariant c.requires.n_in_bounds c.loop-k-test.true c.wide-i.result c.wide-i.ensures
    (λ m r. has_no x.work a.lay.slots a.lay.points m r c.wide-i.result c.if-work-i-ne3.true)

pub remove_cell-requires : goal.remove_cell-requires
remove_cell-requires c =
    let g = c.loop-k.invariant.is c.requires.rep.0 c.requires.rep.1 in
    record { rep = (g.0, g.1); i_lt_s = c.if-i-lay.false }

pub loop-k-preserved : goal.loop-k-preserved
loop-k-preserved c =
    let a = c.args in
    let x = c.loop-k in
    going_more a.work.now x.work a.trace.now a.lay.slots a.lay.points a.from a.n x.k x.invariant c.requires.n_in_bounds c.loop-k-test.true c.wide-i.result c.wide-i.ensures
    (λ m r. has_yes x.work a.lay.slots a.lay.points m r c.wide-i.result c.if-i-lay.false c.if-work-i-ne3.false) c.remove_cell.new.w (λ m r. c.remove_cell.ensures.rep m r tt) c.remove_cell.ensures.keeps.len

pub shape_of-work : goal.shape_of-work
shape_of-work c = c.loop-k.invariant.len

pub returns : goal.returns
returns c =
    let a = c.args in
    let x = c.loop-k in
    going_all a.work.now x.work a.trace.now a.lay.slots a.lay.points a.from a.n x.k x.invariant c.requires.n_in_bounds c.loop-k-test.false
