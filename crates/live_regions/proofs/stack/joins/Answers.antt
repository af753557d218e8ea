use borrow.Author.Tests.{eqb-true}
use Rattle.live_regions.proofs.Notes.{joins_turned}
use Rattle.live_regions.proofs.stack.joins.Goals as goal

pub returns-then-a-v : goal.returns-then-a-v
returns-then-a-v c =
    let a = c.args in
    λ e. joins_turned a.a a.b a.u a.v c.if-a-v.true (eqb-true a.b a.u e)
