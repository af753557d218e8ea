-- Turned or not.
use Rattle.balance.proofs.places.put_either.Goals as goal

pub returns-then-turned : goal.returns-then-turned
returns-then-turned c = rw c.if-turned.true c.put_side.ensures

pub returns : goal.returns
returns c = rw c.if-turned.false c.put_side-2.ensures
