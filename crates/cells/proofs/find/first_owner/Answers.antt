-- The search starts behind the sentinel of u.
use native.Mathlib.Omega.{arith}
use Rattle.cells.proofs.Walks.{start}
use Rattle.cells.proofs.Owners.{at_start}
use Rattle.cells.proofs.find.first_owner.Goals as goal

pub next-requires : goal.next-requires
next-requires c =
    let a = c.args in
    record { fits = omega (arith, c.requires.rep.1.room.fits); code = omega (arith, c.requires.edge.node) }

pub seek-requires : goal.seek-requires
seek-requires c =
    let a = c.args in
    record { pos = (c.requires.rep.0.live, rw c.next.ensures (start a.w.now a.lay.slots a.lay.points a.u c.requires.rep.0 c.requires.rep.1 c.requires.edge.node)); edge = c.requires.edge }

pub returns : goal.returns
returns c =
    let a = c.args in
    λ m r. at_start a.w.now a.lay.slots a.lay.points a.u a.v c.seek.result m r c.requires.edge.node (λ rest h. c.seek.ensures rest (rw c.next.ensures h))
