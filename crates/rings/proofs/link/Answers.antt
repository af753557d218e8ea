use Rattle.laws.specs.Kit.{arith, length-set}
use Rattle.rings.specs.Rings.{linkedW}
use Rattle.rings.proofs.Rings.{linked_to}
use Rattle.rings.proofs.link.Goals as goal

pub returns : goal.returns
unfolding linkedW
returns c =
    let a = c.args in
    let p = c.requires in
    linked_to a.w.now a.b a.n a.c a.t p.fits p.code p.sentinel p.last

pub bounds-w-b-3 : goal.bounds-w-b-3
bounds-w-b-3 c = simp length-set (omega arith)

pub bounds-w-b-4 : goal.bounds-w-b-4
bounds-w-b-4 c = simp length-set (omega arith)

pub bounds-w-b-5 : goal.bounds-w-b-5
bounds-w-b-5 c = simp length-set (omega arith)
