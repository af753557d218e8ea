-- `small::pairs`: the closed form, computed for each of 0 .. 10.
use Rattle.laws.specs.Kit.{arith, rules}
use Rattle.small.specs.Counts.{choices}
use Rattle.small.proofs.Counting.{pairs_right, pairs_small}
use Rattle.small.proofs.pairs.Goals as goal

pub returns-then-n-eq0 : goal.returns-then-n-eq0
unfolding choices
returns-then-n-eq0 c = search rules

pub overflow_mul-result : goal.overflow_mul-result
overflow_mul-result c = omega (arith, pairs_small c.args.n c.requires)

pub returns : goal.returns
returns c = omega (arith, pairs_right c.args.n c.requires, pairs_small c.args.n c.requires)
