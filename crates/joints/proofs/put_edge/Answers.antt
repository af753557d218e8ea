-- Two words and two marks.
use Rattle.laws.specs.Kit.{arith, length-set}
use Rattle.joints.proofs.Puts.{put_is}
use Rattle.joints.proofs.put_edge.Goals as goal

pub returns : goal.returns
returns c =
    let a = c.args in
    rw (c.wide.ensures, c.wide-2.ensures) (put_is a.j.now a.i a.u a.v c.requires)

pub bounds-j-at-2 : goal.bounds-j-at-2
bounds-j-at-2 c = simp length-set (omega arith)

pub bounds-j-wide : goal.bounds-j-wide
bounds-j-wide c = simp length-set (omega arith)

pub bounds-j-wide-2 : goal.bounds-j-wide-2
bounds-j-wide-2 c = simp length-set (omega arith)
