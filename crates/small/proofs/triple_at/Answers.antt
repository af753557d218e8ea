-- `small::triple_at`.
-- The loop's invariant: the triple asked for stands at `left` of the triples of `first` and the `after` numbers
-- behind it, and `block` is how many pairs those have.
-- The measure is `after`.
use Rattle.std.specs.Prelude.{◌∷◌}
use Rattle.laws.specs.Kit.{arith, []}
use Rattle.small.proofs.Places.{begun, passed, reached}
use Rattle.small.proofs.triple_at.Goals as goal

pub overflow_sub-after : goal.overflow_sub-after
overflow_sub-after c = (begun 2 0 c.args.n c.args.place c.requires.within).0

pub loop-block-init : goal.loop-block-init
loop-block-init c = ((begun 2 0 c.args.n c.args.place c.requires.within).1, c.pairs-block.ensures.counted)

pub overflow_sub-after-in-loop-block : goal.overflow_sub-after-in-loop-block
overflow_sub-after-in-loop-block c = (passed c.loop-block.invariant.0 c.loop-block.block c.loop-block.invariant.1 (omega arith)).0

pub loop-block-smaller : goal.loop-block-smaller
loop-block-smaller c =
    let l = c.loop-block in
    let h = (passed l.invariant.0 l.block l.invariant.1 (omega arith)).0 in
    omega arith

pub loop-block-preserved : goal.loop-block-preserved
loop-block-preserved c =
    let l = c.loop-block in
    ((passed l.invariant.0 l.block l.invariant.1 (omega arith)).1, c.pairs-block-in-loop-block.ensures.counted)

pub returns : goal.returns
returns c =
    let l = c.loop-block in
    let p = c.pair_at-second.result in
    record {
      there = reached l.invariant.0 l.block l.invariant.1 (p.0 ∷ p.1 ∷ []) (omega arith) c.pair_at-second.ensures.there;
      first = omega arith;
      second = omega arith;
      below = omega arith;
    }
