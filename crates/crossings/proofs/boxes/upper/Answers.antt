use Rattle.crossings.specs.Boxes.{down}
use Rattle.crossings.proofs.Boxing.{high_stays, high_takes, gives_up}
use Rattle.crossings.proofs.boxes.upper.Goals as goal

pub returns-then-x-b : goal.returns-then-x-b
returns-then-x-b c = let a = c.args in high_stays a.b a.i a.x c.if-x-b.true

pub returns-then-b-x : goal.returns-then-b-x
returns-then-b-x c = let a = c.args in high_takes a.b a.i a.x c.if-b-x.true

pub returns : goal.returns
returns c = let a = c.args in gives_up a.b a.i a.x down
