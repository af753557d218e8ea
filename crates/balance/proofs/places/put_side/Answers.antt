-- The lesser node comes first.
use Rattle.laws.specs.Kit.{lt-ltb, le-ltb}
use Rattle.balance.specs.Codes.{code}
use Rattle.balance.proofs.places.put_side.Goals as goal

pub returns-then-a-b : goal.returns-then-a-b
unfolding code
returns-then-a-b c = rw (lt-ltb _ _ c.if-a-b.true) c.put.ensures

pub returns : goal.returns
unfolding code
returns c = rw (le-ltb _ _ c.if-a-b.false) c.put-2.ensures
