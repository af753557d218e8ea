use Rattle.live_regions.proofs.Notes.{pass_over}
use Rattle.live_regions.proofs.stack.push_new.Goals as goal

pub returns-then-b-eq1 : goal.returns-then-b-eq1
returns-then-b-eq1 c =
    let a = c.args in
    λ m out seen st h. pass_over a.w.now a.lay.slots a.lay.points a.i a.u a.v a.b m out seen st h c.if-b-eq1.true

pub returns : goal.returns
returns c =
    λ m out seen st h. c.push_either.ensures m out seen st h.can
