use mathlib.Core.Path.{subst}
use lib.Ieee.{Float}
use Rattle.definition.specs.Call.{point_at}
use Rattle.plane.specs.Points.{spot_x, spot_y}
use Rattle.side_candidates.specs.Blocks.{Low, High, Bounded, Holds, WithinToo}
use Rattle.side_candidates.proofs.Boxing.{holds_also}
use Rattle.side_candidates.proofs.blocks.Frame.with_node.Goals as goal

pub returns : goal.returns
returns c =
    let a = c.args in
    let x = spot_x c.at-t.result (point_at a.q.now a.v) c.at-t.ensures in
    let y = spot_y c.at-t.result (point_at a.q.now a.v) c.at-t.ensures in
    let h : Holds (record { x0 = c.lower.result; x1 = c.upper.result; y0 = c.lower-2.result; y1 = c.upper-2.result }) (point_at a.q.now a.v) × WithinToo a.self (record { x0 = c.lower.result; x1 = c.upper.result; y0 = c.lower-2.result; y1 = c.upper-2.result }) =
    holds_also a.self (record { x0 = c.lower.result; x1 = c.upper.result; y0 = c.lower-2.result; y1 = c.upper-2.result }) (point_at a.q.now a.v)
    (subst (λ (z : Float). Bounded Low a.self.x0 z c.lower.result) x c.lower.ensures)
    (subst (λ (z : Float). Bounded High a.self.x1 z c.upper.result) x c.upper.ensures)
    (subst (λ (z : Float). Bounded Low a.self.y0 z c.lower-2.result) y c.lower-2.ensures)
    (subst (λ (z : Float). Bounded High a.self.y1 z c.upper-2.result) y c.upper-2.ensures) in
    record { here = h.0; keeps = h.1 }
