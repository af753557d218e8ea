use Rattle.laws.specs.Kit.{arith, length-set}
use Rattle.leftovers.proofs.Texts.{written}
use Rattle.leftovers.proofs.write_three.Goals as goal

pub bounds-out-1 : goal.bounds-out-1
bounds-out-1 c = omega (arith, c.requires, length-set c.args.out.now 0 c.args.a)

pub returns : goal.returns
returns c = written c.args.out.now c.args.a c.args.b c.args.c c.requires
