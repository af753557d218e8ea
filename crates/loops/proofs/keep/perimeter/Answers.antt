-- The loop's invariant: the edges still to come, added to the sum so far, give the perimeter.
-- The measure is how many they are.
use Rattle.laws.specs.Kit.{arith, of_bits}
use Rattle.definition.specs.Floats.{◌⊕◌, 0·0, f64}
use Rattle.edges.specs.Kept.{on_place, known_on}
use Rattle.loops.proofs.Keeping.{summing_start, summing_end, summing_on}
use Rattle.loops.proofs.keep.perimeter.Goals as goal

pub loop-i-init : goal.loop-i-init
unfolding 0·0 of_bits f64
loop-i-init c = (omega arith, λ m l t o. summing_start m.points o)

pub length_on-sum-requires : goal.length_on-sum-requires
length_on-sum-requires c =
    let x = c.loop-i in
    let t = c.requires in
    let h = c.loop-i-test.true in
    (t.0, on_place t.4 t.2 x.i x.invariant.0 h, t.3, known_on t.4 x.i x.invariant.0 h)

pub loop-i-preserved : goal.loop-i-preserved
unfolding ◌⊕◌
loop-i-preserved c =
    let h = c.loop-i-test.true in
    let x = c.loop-i in
    (omega (arith, x.invariant.0), λ m l t o. summing_on (x.invariant.1 m l t o) h _ (c.length_on-sum.ensures m t (known_on o x.i x.invariant.0 h)))

pub returns : goal.returns
returns c = λ m l t o. summing_end (c.loop-i.invariant.1 m l t o) c.loop-i-test.false

pub loop-i-smaller : goal.loop-i-smaller
loop-i-smaller c = omega (arith, c.loop-i-test.true)
