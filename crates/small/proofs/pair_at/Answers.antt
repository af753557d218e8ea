-- `small::pair_at`.
-- The loop's invariant: the pair asked for stands at `left` of the pairs of `first`
-- and the `after` numbers behind it.
-- The measure is `after`.
use Rattle.std.specs.Prelude.{◌+◌, ◌∷◌}
use Rattle.laws.specs.Kit.{sym, arith, []}
use Rattle.small.proofs.Places.{begun, passed, reached, ones, single}
use Rattle.small.proofs.pair_at.Goals as goal

pub overflow_sub-after : goal.overflow_sub-after
overflow_sub-after c = (begun 1 c.args.from c.args.n c.args.place c.requires.within).0

pub loop-after-init : goal.loop-after-init
loop-after-init c = (begun 1 c.args.from c.args.n c.args.place c.requires.within).1

pub overflow_sub-after-in-loop-after : goal.overflow_sub-after-in-loop-after
overflow_sub-after-in-loop-after c = (passed c.loop-after.invariant c.loop-after.after (sym (ones c.loop-after.after)) (omega arith)).0

pub loop-after-preserved : goal.loop-after-preserved
loop-after-preserved c = (passed c.loop-after.invariant c.loop-after.after (sym (ones c.loop-after.after)) (omega arith)).1

pub returns : goal.returns
returns c =
    let first = c.loop-after.first in
    let after = c.loop-after.after in
    let left = c.loop-after.left in
    record {
      there = reached c.loop-after.invariant after (sym (ones after)) ((first + 1 + left) ∷ []) (omega arith) (single (first + 1) after left (omega arith));
      start = omega arith;
      ascending = omega arith;
      below = omega arith;
    }

pub loop-after-smaller : goal.loop-after-smaller
loop-after-smaller c = let h = overflow_sub-after-in-loop-after c in omega arith
