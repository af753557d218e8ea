-- The parent's parent is stored.
use Rattle.laws.specs.Kit.{sym, arith, get_or-set_same}
use Rattle.groups.proofs.Roots.{halved}
use Rattle.groups.proofs.forest.halve.Goals as goal

pub offset_bounds-parents-p : goal.offset_bounds-parents-p
offset_bounds-parents-p c = let s = c in omega (arith, s.requires.0.down s.args.i s.requires.1)

pub bounds-parents-p : goal.bounds-parents-p
bounds-parents-p c = let s = c in omega (arith, s.requires.0.down s.args.i s.requires.1)

pub returns : goal.returns
returns c = (halved c.args.parents.now c.args.n c.args.i c.requires.0 c.requires.1, sym (get_or-set_same c.args.parents.now c.args.i _ 0 (omega arith)))
