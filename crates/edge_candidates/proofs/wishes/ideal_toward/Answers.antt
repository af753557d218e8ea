use Rattle.plane.specs.Vectors.{vec}
use Rattle.edge_candidates.proofs.Halves.{half_is}
use Rattle.edge_candidates.proofs.wishes.ideal_toward.Goals as goal

pub returns : goal.returns
returns c =
    let a = c.args in
    half_is a.q.now a.a a.v (vec a.u) (vec c.from_to-d.result) (vec c.over.result) (vec c.plus-h.result) (vec c.over-2.result) c.norm.result c.norm-2.result
    c.from_to-d.ensures c.norm.ensures c.over.ensures c.plus-h.ensures c.norm-2.ensures c.over-2.ensures
