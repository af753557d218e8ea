use Rattle.plane.specs.Vectors.{vec}
use Rattle.edge_candidates.specs.Wishes.{kept_test}
use Rattle.edge_candidates.proofs.Fours.{tested_by}
use Rattle.edge_candidates.proofs.kept_near.Goals as goal

pub returns-then-spread_near : goal.returns-then-spread_near
returns-then-spread_near c =
    let a = c.args in
    tested_by (kept_test a.w.now a.b (vec a.e)) 0 a.k (c.spread_near.ensures c.if-spread_near.true)

pub returns-then-k-le-SPREAD : goal.returns-then-k-le-SPREAD
returns-then-k-le-SPREAD c = c.few_near.ensures

pub returns : goal.returns
returns c = c.all_near.ensures
