-- Whether the test is asked, and what it gives then.
use Rattle.pairs.proofs.Gives.{odd_off, odd_on}
use Rattle.pairs.proofs.one.refuses_odd.Goals as goal

pub returns-then-not-even : goal.returns-then-not-even
returns-then-not-even c =
    let a = c.args in
    λ m xs h u l. odd_off a.w.now a.lay.slots a.lay.points a.n a.even m xs h c.if-not-even.true

pub returns : goal.returns
returns c =
    let a = c.args in
    λ m xs h u l. odd_on a.w.now c.leaves_odd.new.w a.lay.slots a.lay.points a.n a.even m xs c.leaves_odd.result (c.leaves_odd.ensures m xs h u l) c.if-not-even.false
