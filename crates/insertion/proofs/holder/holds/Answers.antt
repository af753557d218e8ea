use Rattle.laws.specs.Kit.{sym, ◌∙◌}
use Rattle.definition.specs.Plane.{flat}
use Rattle.cells.proofs.Slots.{tri_in}
use Rattle.insertion.proofs.Holders.{holds_other, holds_read, reads_within}
use Rattle.insertion.proofs.holder.holds.Goals as goal

pub returns-then-kind-ne3 : goal.returns-then-kind-ne3
returns-then-kind-ne3 c =
    let a = c.args in
    λ m d. holds_other a.w.now a.lay.slots a.lay.points m d.rep (flat a.x a.y) a.i (λ e. c.if-kind-ne3.true (c.kind.ensures ∙ e))

pub point_strictly_inside-requires : goal.point_strictly_inside-requires
point_strictly_inside-requires c =
    let a = c.args in
    let m = c.requires.drawn.0 in
    let d = c.requires.drawn.1 in
    reads_within a.w.now a.lay.slots a.lay.points m d.rep (flat a.x a.y) a.i a.q.now d.pts
    (tri_in a.w.now a.lay.slots a.lay.points m d.rep a.i c.requires.i_lt_s (sym c.kind.ensures ∙ c.if-kind-ne3.false))
    c.node-a.result c.node-b.result c.node-c.result c.node-a.ensures c.node-b.ensures c.node-c.ensures

pub returns : goal.returns
returns c =
    let a = c.args in
    λ m d.
    holds_read a.w.now a.lay.slots a.lay.points m d.rep (flat a.x a.y) a.i a.q.now d.pts
    (tri_in a.w.now a.lay.slots a.lay.points m d.rep a.i c.requires.i_lt_s (sym c.kind.ensures ∙ c.if-kind-ne3.false))
    c.node-a.result c.node-b.result c.node-c.result c.node-a.ensures c.node-b.ensures c.node-c.ensures
    c.point_strictly_inside.result c.point_strictly_inside.ensures
