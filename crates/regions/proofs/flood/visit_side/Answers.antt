use Rattle.definition.specs.Cells.{key, new_quad, quad_edges}
use Rattle.regions.proofs.Visits.{side_skipped, side_crossed}
use Rattle.regions.proofs.flood.visit_side.Goals as goal

pub returns-then-is_side : goal.returns-then-is_side
returns-then-is_side c =
    λ m done todo h.
    let a = c.args in
    side_skipped a.w.now a.lay.slots a.lay.points (quad_edges (new_quad a.a a.b a.c a.d)) (key a.u a.v) a.n m done todo c.is_side.result c.is_side.ensures c.if-is_side.true h

pub returns : goal.returns
returns c =
    λ m done todo h.
    let a = c.args in
    side_crossed a.w.now a.lay.slots a.lay.points (quad_edges (new_quad a.a a.b a.c a.d)) (key a.u a.v) a.n m done todo c.is_side.result c.is_side.ensures c.if-is_side.false
    c.visit_edge.new.w c.visit_edge.result (c.visit_edge.ensures m done todo h)
