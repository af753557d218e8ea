-- `small::triples`: the closed form, computed for each of 0 .. 10.
use Rattle.laws.specs.Kit.{arith}
use Rattle.small.proofs.Counting.{pairs_small, triples_right, triples_small, no_triples}
use Rattle.small.proofs.triples.Goals as goal

pub returns-then-n-lt2 : goal.returns-then-n-lt2
returns-then-n-lt2 c = omega (arith, no_triples c.args.n (omega arith))

pub overflow_mul-result : goal.overflow_mul-result
overflow_mul-result c = omega (arith, pairs_small c.args.n c.requires)

pub overflow_mul-result-2 : goal.overflow_mul-result-2
overflow_mul-result-2 c = omega (arith, triples_small c.args.n c.requires)

pub returns : goal.returns
returns c = omega (arith, triples_right c.args.n c.requires, triples_small c.args.n c.requires)
