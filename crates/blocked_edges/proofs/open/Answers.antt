-- The loop's invariant: the nodes below v are opened (Opening.Opened).
use Rattle.laws.specs.Kit.{arith, length-set}
use Rattle.blocked_edges.proofs.Opening.{open_none, open_more, open_done}
use Rattle.blocked_edges.proofs.open.Goals as goal

pub loop-v-init : goal.loop-v-init
loop-v-init c =
    let a = c.args in
    open_none a.w.now a.b a.n a.p

pub loop-v-preserved : goal.loop-v-preserved
loop-v-preserved c =
    let a = c.args in
    let l = c.loop-v in
    open_more a.w.now l.w a.b a.n a.p l.v c.requires c.loop-v-test.true l.invariant

pub returns : goal.returns
returns c =
    let a = c.args in
    let l = c.loop-v in
    open_done a.w.now l.w a.b a.n a.p l.v c.requires c.loop-v-test.false l.invariant

pub bounds-w-b-in-loop-v : goal.bounds-w-b-in-loop-v
bounds-w-b-in-loop-v c = simp length-set (omega arith)

pub shape_of-w : goal.shape_of-w
shape_of-w c = c.loop-v.invariant.kept.len
