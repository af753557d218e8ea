-- The edges passed have as many sides in both directions.
use Rattle.std.specs.Prelude.{◌/◌}
use Rattle.laws.specs.Kit.{ap, arith}
use Rattle.sorting.specs.Places.{key_at}
use Rattle.balance.proofs.Passes.{passed_start, moves, passed_next, first_is}
use Rattle.balance.proofs.runs.first_uneven.Goals as goal

pub loop-i-init : goal.loop-i-init
loop-i-init c = passed_start (key_at _) _

pub returns-then-is_uneven : goal.returns-then-is_uneven
returns-then-is_uneven c =
    let r = c.is_uneven.ensures.yes_is c.if-is_uneven.true in
    first_is (key_at _) _ _ _ _ _ c.requires.ascends c.loop-i-test.true (ap (λ z. z / 2) c.key_at-e.ensures) c.past-m.ensures c.past-j.ensures c.loop-i.invariant r.0 r.1

pub loop-i-smaller : goal.loop-i-smaller
loop-i-smaller c =
    let m = moves (key_at _) _ _ _ _ _ c.requires.ascends c.loop-i-test.true (ap (λ z. z / 2) c.key_at-e.ensures) c.past-m.ensures c.past-j.ensures c.loop-i.invariant in
    omega arith

pub loop-i-preserved : goal.loop-i-preserved
loop-i-preserved c =
    passed_next (key_at _) _ _ _ _ _ c.requires.ascends c.loop-i-test.true (ap (λ z. z / 2) c.key_at-e.ensures) c.past-m.ensures c.past-j.ensures c.loop-i.invariant
    (c.is_uneven.ensures.no_is c.if-is_uneven.false)

pub returns : goal.returns
returns c = let g = c in λ a b l m. g.loop-i.invariant.done a b l m (λ j h k. omega arith)
