use Rattle.laws.specs.Kit.{sym, subst, arith, T, length-set}
use Rattle.edge_candidates.proofs.Bits.{put_to}
use Rattle.edge_candidates.proofs.doubles.put.Goals as goal

pub returns : goal.returns
returns c =
    put_to c.args.w.now c.args.at c.bits_of-b.result c.args.x (subst T (sym c.well_formed.1.1.0.1) tt) c.bits_of-b.ensures c.requires

pub bounds-w-at-2 : goal.bounds-w-at-2
bounds-w-at-2 c = simp length-set (omega arith)
