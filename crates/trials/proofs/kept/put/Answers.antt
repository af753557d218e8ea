-- The loop's invariant: what the arrays hold, with what is carried put at i,
-- is what they held at entry with t put at p.
--
use native.Mathlib.Omega.{arith}
use Rattle.trials.proofs.Steps.{pushed_none, pushed_more, put_full, put_room}
use Rattle.trials.proofs.kept.put.Goals as goal

pub loop-i-preserved : goal.loop-i-preserved
loop-i-preserved c =
    let k = c.requires in
    pushed_more _ _ _ _ _ _ _ _ _ _ c.loop-i.invariant k.1 k.2 _ _ _ c.loop-i-test.true c.get-next.ensures c.store.ensures

pub returns-then-count-pairs : goal.returns-then-count-pairs
returns-then-count-pairs c =
    let k = c.requires in
    put_full _ _ _ _ _ _ _ _ _ _ c.loop-i.invariant k.1 k.2 k.0 c.loop-i-test.false c.if-count-pairs.true

pub returns : goal.returns
returns c =
    let k = c.requires in
    put_room _ _ _ _ _ _ _ _ _ _ c.loop-i.invariant k.1 k.2 k.0 c.loop-i-test.false _ _ (omega (arith, k.1, c.if-count-pairs.false)) c.store-2.ensures

pub loop-i-init : goal.loop-i-init
loop-i-init c = pushed_none _ _ _ _ _ c.requires.0
