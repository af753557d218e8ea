use Rattle.laws.specs.Kit.{arith, length-set}
use Rattle.rings.specs.Rings.{unlinkedW}
use Rattle.rings.proofs.Rings.{unlinked_from}
use Rattle.rings.proofs.unlink.Goals as goal

pub returns : goal.returns
unfolding unlinkedW
returns c =
    let a = c.args in
    let p = c.requires in
    unlinked_from a.w.now a.b a.n a.c p.fits p.code p.prev p.next p.back p.forth

pub bounds-w-b-4 : goal.bounds-w-b-4
bounds-w-b-4 c = simp length-set (omega arith)
