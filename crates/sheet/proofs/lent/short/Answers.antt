use Rattle.laws.specs.Kit.{lt-ltb, le-ltb}
use Rattle.definition.specs.Call.{most_slots, most_capacity}
use Rattle.sheet.specs.Lent.{short_number}
use Rattle.sheet.proofs.lent.short.Goals as goal

pub returns-then-count-gt-MOST_QUADS : goal.returns-then-count-gt-MOST_QUADS
unfolding short_number most_slots most_capacity
returns-then-count-gt-MOST_QUADS c = rw (lt-ltb 16384 _ c.if-count-gt-MOST_QUADS.true)

pub returns-then-given-gt-MOST_POINTS : goal.returns-then-given-gt-MOST_POINTS
unfolding short_number most_slots most_capacity
returns-then-given-gt-MOST_POINTS c = rw (le-ltb 16384 _ c.if-count-gt-MOST_QUADS.false, lt-ltb 8192 _ c.if-given-gt-MOST_POINTS.true)

pub returns : goal.returns
unfolding short_number most_slots most_capacity
returns c = rw (le-ltb 16384 _ c.if-count-gt-MOST_QUADS.false, le-ltb 8192 _ c.if-given-gt-MOST_POINTS.false)
