-- Edge after edge.
use Rattle.laws.specs.Kit.{◌∙◌, arith}
use Rattle.definition.specs.Cells.{new_quad}
use Rattle.cells.proofs.Slots.{rep_see, tri_held}
use Rattle.regions.proofs.Visits.{tri_inside}
use Rattle.regions.proofs.Locked.{first_stays, second_stays, third_goes}
use Rattle.regions.proofs.spares.spares_tri.Goals as goal

pub node-x-requires : goal.node-x-requires
node-x-requires c =
    let a = c.args in
    record { can_see = rep_see a.w.now a.lay.slots a.lay.points c.requires.0 c.requires.1 a.i (tri_inside a.w.now a.lay.slots a.lay.points c.requires.0 c.requires.1 a.i c.requires.2); k_bound = omega arith }

pub node-y-requires : goal.node-y-requires
node-y-requires c =
    let a = c.args in
    record { can_see = rep_see a.w.now a.lay.slots a.lay.points c.requires.0 c.requires.1 a.i (tri_inside a.w.now a.lay.slots a.lay.points c.requires.0 c.requires.1 a.i c.requires.2); k_bound = omega arith }

pub node-z-requires : goal.node-z-requires
node-z-requires c =
    let a = c.args in
    record { can_see = rep_see a.w.now a.lay.slots a.lay.points c.requires.0 c.requires.1 a.i (tri_inside a.w.now a.lay.slots a.lay.points c.requires.0 c.requires.1 a.i c.requires.2); k_bound = omega arith }

pub returns-then-not-may_go : goal.returns-then-not-may_go
returns-then-not-may_go c =
    let a = c.args in
    λ m r t l.
    let h = tri_held a.w.now a.lay.slots a.lay.points m r a.i t in
    first_stays m (new_quad a.a a.b a.c a.d) t.t c.node-x.result c.node-y.result c.node-z.result
    (c.node-x.ensures ∙ h.n0) (c.node-y.ensures ∙ h.n1) (c.node-z.ensures ∙ h.n2) c.may_go.result (c.may_go.ensures m l) c.if-not-may_go.true

pub returns-then-not-may_go-2 : goal.returns-then-not-may_go-2
returns-then-not-may_go-2 c =
    let a = c.args in
    λ m r t l.
    let h = tri_held a.w.now a.lay.slots a.lay.points m r a.i t in
    second_stays m (new_quad a.a a.b a.c a.d) t.t c.node-x.result c.node-y.result c.node-z.result
    (c.node-x.ensures ∙ h.n0) (c.node-y.ensures ∙ h.n1) (c.node-z.ensures ∙ h.n2) c.may_go.result (c.may_go.ensures m l)
    c.if-not-may_go.false c.may_go-2.result (c.may_go-2.ensures m l) c.if-not-may_go-2.true

pub returns : goal.returns
returns c =
    let a = c.args in
    λ m r t l.
    let h = tri_held a.w.now a.lay.slots a.lay.points m r a.i t in
    third_goes m (new_quad a.a a.b a.c a.d) t.t c.node-x.result c.node-y.result c.node-z.result
    (c.node-x.ensures ∙ h.n0) (c.node-y.ensures ∙ h.n1) (c.node-z.ensures ∙ h.n2) c.may_go.result (c.may_go.ensures m l)
    c.if-not-may_go.false c.may_go-2.result (c.may_go-2.ensures m l) c.if-not-may_go-2.false
    c.may_go-3.result (c.may_go-3.ensures m l)
