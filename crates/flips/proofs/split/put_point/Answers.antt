use mathlib.Core.Path.{refl}
use native.Mathlib.Omega.{arith}
use lib.ListN.{length-set}
use Rattle.definition.specs.Floats.{0·0, f64}
use borrow.Author.Rules.{rules}
use Rattle.flips.proofs.split.put_point.Goals as goal

pub returns : goal.returns
unfolding 0·0 f64
returns c = refl

pub bounds-q-n-2 : goal.bounds-q-n-2
bounds-q-n-2 c = simp length-set (omega (arith, c.requires))
