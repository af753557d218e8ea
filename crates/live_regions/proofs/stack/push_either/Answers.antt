-- The edge is the same from both ends.
use mathlib.Core.Path.{sym}
use Rattle.live_regions.proofs.Notes.{can_swap, edge_swap}
use Rattle.live_regions.proofs.stack.push_either.Goals as goal

pub push_edge-requires : goal.push_edge-requires
push_edge-requires c =
    let a = c.args in
    let y = c.requires.can_push in
    record {
      can_push = (y.0, y.1, y.2, y.3, can_swap a.w.now a.lay.slots a.lay.points a.i a.u a.v y.0 y.1 y.2 y.3 y.4);
      edge = record { node = c.around_other.ensures c.if-around_other.true; apart = λ e. c.requires.edge.apart (sym e) };
    }

pub returns-then-around_other : goal.returns-then-around_other
returns-then-around_other c =
    let a = c.args in
    λ m out seen st h.
    edge_swap a.w.now c.push_edge.new.w a.lay.slots a.lay.points a.u a.v c.push_edge.result m out seen st
    (c.push_edge.ensures m out seen st (can_swap a.w.now a.lay.slots a.lay.points a.i a.u a.v m out seen st h))
