-- The bounds are added up in their order.
use Rattle.laws.specs.Kit.{arith}
use Rattle.definition.specs.Floats.{0·1, 0·2, 0·3, 0·4, 0·5, 0·6, 0·7, 0·8, 0·9, f64}
use Rattle.sheet_steps.proofs.Bounds.{place_sum}
use Rattle.sheet_steps.proofs.places.step.Goals as goal

pub returns : goal.returns
unfolding 0·1 0·2 0·3 0·4 0·5 0·6 0·7 0·8 0·9 f64
returns c = (λ k. omega (arith, place_sum c.args.sj k), omega arith)
