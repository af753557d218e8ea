use Rattle.definition.specs.Candidates.{walls, segment_inside}
use native.Mathlib.Omega.{arith}
use Rattle.side_candidates.proofs.Scans.{passing_start}
use Rattle.side_candidates.proofs.Skipping.{through_is}
use Rattle.side_candidates.proofs.inside.segment_inside.Goals as goal

pub cells_open-requires : goal.cells_open-requires
cells_open-requires c =
    let a = c.args in
    let q = c.requires in
    record {
      can_pass = (q.0, q.1, record { hand = q.2; ends = q.3; from = passing_start a.w.now a.q.now a.lay.slots a.lay.points a.n a.a a.b q.0 q.1 q.2 });
      j_le_k = (omega arith, omega arith);
    }

pub returns : goal.returns
returns c =
    let a = c.args in
    λ m g h e.
    through_is a.w.now a.lay.slots a.lay.points a.n a.n m a.a a.b (segment_inside m a.a a.b (walls m g)) c.cells_open.result (omega arith)
    (c.cells_open.ensures m g (record { hand = h; ends = e; from = passing_start a.w.now a.q.now a.lay.slots a.lay.points a.n a.a a.b m g h }))
