-- The loop's invariant: the first i are z, and the length is the same.
use Rattle.cells.proofs.Clears.{part_start, part_more, part_done}
use Rattle.laws.specs.Kit.{arith}
use Rattle.cells.proofs.clear.clear.Goals as goal

pub loop-i-init : goal.loop-i-init
loop-i-init g c = part_start c.args.z c.args.w.now

pub loop-i-preserved : goal.loop-i-preserved
loop-i-preserved g c =
    let x = c.loop-i in
    part_more c.args.z c.args.w.now x.w x.i (omega arith) x.invariant

pub returns : goal.returns
returns g c =
    let x = c.loop-i in
    part_done c.args.z c.args.w.now x.w x.i (omega arith) x.invariant
