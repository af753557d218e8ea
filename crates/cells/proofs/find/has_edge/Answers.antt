-- There is an owner where the first corner found is one.
use Rattle.cells.proofs.Fronts.{edge_test}
use Rattle.cells.proofs.find.has_edge.Goals as goal

pub returns : goal.returns
returns c =
    let a = c.args in
    λ m r. edge_test a.w.now a.lay.slots a.lay.points a.u a.v c.first_owner.result m (c.first_owner.ensures m r)
