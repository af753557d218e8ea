-- The code's four comparisons are the definition's.
use Rattle.laws.specs.Kit.{arith, le-ltb}
use Rattle.definition.specs.Call.{most_given, most_capacity, most_slots, over_limit}
use Rattle.refusals.proofs.over_limit.Goals.{then-a-gt-MOST_GIVEN, else-a-gt-MOST_GIVEN, then-a-gt-MOST_GIVEN-2, else-a-gt-MOST_GIVEN-2}
use Rattle.refusals.proofs.over_limit.Goals as goal

pub returns-then-a-gt-MOST_CAPACITY : goal.returns-then-a-gt-MOST_CAPACITY
unfolding over_limit most_given most_capacity most_slots
returns-then-a-gt-MOST_CAPACITY c = elim c.if-a-gt-MOST_GIVEN-2.branch [
  | then-a-gt-MOST_GIVEN-2 w ↦ elim c.if-a-gt-MOST_GIVEN.branch [ then-a-gt-MOST_GIVEN v ↦ grind (arith, v, w) | else-a-gt-MOST_GIVEN v ↦ grind (arith, v, w) ]
  | else-a-gt-MOST_GIVEN-2 w ↦ grind (arith, w, c.if-a-gt-MOST_CAPACITY.either)
]

pub returns-else-a-gt-MOST_CAPACITY : goal.returns-else-a-gt-MOST_CAPACITY
unfolding over_limit most_given most_capacity most_slots
returns-else-a-gt-MOST_CAPACITY c =
    let a = c.args.a in
    rw (le-ltb 4096 a.count (omega arith), le-ltb 4096 a.given (omega arith), le-ltb 8192 a.capacity (omega arith))
